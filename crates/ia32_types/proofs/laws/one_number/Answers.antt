use Rattle.ia32_types.proofs.NumberLemmas.{reg_number_below, reg_of_number, number_of_reg, flag_number_below, flag_of_number, number_of_flag}
use Rattle.ia32_types.proofs.laws.one_number.Goals as goal

pub returns : goal.returns
returns c = record {
  reg = λ r. (reg_number_below r, reg_of_number r);
  number_of_reg = number_of_reg;
  flag = λ f. (flag_number_below f, flag_of_number f);
  number_of_flag = number_of_flag;
}

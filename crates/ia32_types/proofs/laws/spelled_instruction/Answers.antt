use Rattle.ia32_types.proofs.InstructionLemmas.{spelled_instruction}
use Rattle.ia32_types.proofs.laws.spelled_instruction.Goals as goal

pub returns : goal.returns
returns c = record {
  operands = λ bytes at i s. (spelled_instruction bytes at i s).is;
  here = λ bytes at i s. (spelled_instruction bytes at i s).here;
  long = λ bytes at i s. (spelled_instruction bytes at i s).long;
}

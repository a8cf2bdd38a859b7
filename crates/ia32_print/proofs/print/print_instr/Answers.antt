use Rattle.std.proofs.Common.{refl}
use Rattle.ia32_print.specs.Text.{instr_text}
use Rattle.ia32_print.proofs.print.print_instr.Goals as goal

pub returns : goal.returns
unfolding instr_text
returns c =
    rw (c.push_operands.ensures, c.push-2.ensures, c.push.ensures, c.new-text.ensures, ← c.name_of-name.ensures.name) refl

use Rattle.std.proofs.Common.{refl, append_assoc}
use Rattle.ia32_print.specs.Text.{operand_text}
use Rattle.ia32_print.proofs.print.push_operand.Goals as goal

pub returns-in-Reg-clause-text : goal.returns-in-Reg-clause-text
unfolding operand_text
returns-in-Reg-clause-text c =
    rw (c.push.ensures, c.reg_at.ensures.name, c.in-Reg.is) refl

pub returns-in-High-clause-text : goal.returns-in-High-clause-text
unfolding operand_text
returns-in-High-clause-text c =
    rw (c.push-in-High.ensures, c.high.ensures.name, c.in-High.is) refl

pub returns-in-Imm-clause-text : goal.returns-in-Imm-clause-text
unfolding operand_text
returns-in-Imm-clause-text c =
    rw (c.push_number.ensures.text, c.in-Imm.is) refl

pub returns-in-Mem-clause-text : goal.returns-in-Mem-clause-text
unfolding operand_text
returns-in-Mem-clause-text c =
    rw (c.push_memory.ensures.text, c.push-in-Mem.ensures, c.width_before.ensures.name, c.in-Mem.is) (simp append_assoc)

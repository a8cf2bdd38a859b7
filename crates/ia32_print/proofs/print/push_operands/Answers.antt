use Rattle.std.proofs.Common.{append_assoc}
use Rattle.ia32_print.proofs.PartLemmas.{operands-one, operands-two, operands-three}
use Rattle.ia32_print.proofs.print.push_operands.Goals as goal

pub returns-in_default-src : goal.returns-in_default-src
returns-in_default-src c =
    rw (operands-one c.args.i.now c.in-Some.first c.in-Some.is c.in_default-src.is, c.push_operand.ensures.text, c.push.ensures)
    (simp append_assoc)

pub returns-in_default-imm : goal.returns-in_default-imm
returns-in_default-imm c =
    rw (
      operands-two c.args.i.now c.in-Some.first c.in-Some-src.second c.in-Some.is c.in-Some-src.is c.in_default-imm.is,
      c.push_operand-2.ensures.text,
      c.second_width.ensures,
      c.push_comma.ensures.text,
      c.push_operand.ensures.text,
      c.push.ensures,
    ) (simp append_assoc)

pub returns : goal.returns
returns c =
    rw (
      operands-three c.args.i.now c.in-Some.first c.in-Some-src.second c.in-Some-imm.third c.in-Some.is c.in-Some-src.is c.in-Some-imm.is,
      c.push_immediate.ensures.text,
      c.push_comma-2.ensures.text,
      c.push_operand-2.ensures.text,
      c.second_width.ensures,
      c.push_comma.ensures.text,
      c.push_operand.ensures.text,
      c.push.ensures,
    ) (simp append_assoc)

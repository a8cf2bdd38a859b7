use Rattle.std.proofs.Common.{arith}
use Rattle.ia32_machine.proofs.machine.registers_are_words.Goals as goal

pub returns : goal.returns
returns c = λ k. omega (arith, c.type_inv.regs k)

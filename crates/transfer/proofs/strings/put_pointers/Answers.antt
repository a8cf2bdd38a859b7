use Rattle.std.proofs.Common.{◌∙◌}
use Rattle.ia32_semantics.specs.Effects.{Whole}
use Rattle.abs_semantics.specs.Operands.{with_register}
use Rattle.transfer.proofs.strings.put_pointers.Goals as goal

pub returns : goal.returns
returns c = c.put_register.ensures ∙ (λ k. with_register (c.put_ends.ensures k) Whole 1 (c.number.ensures k))

use Rattle.std.proofs.Common.{◌∙◌, ap}
use Rattle.ia32_semantics.specs.Effects.{Whole}
use Rattle.abs_semantics.specs.States.{AbsState}
use Rattle.abs_semantics.specs.Operands.{with_register}
use Rattle.transfer.proofs.strings.put_ends.Goals as goal

pub returns : goal.returns
returns c = c.put_register-2.ensures ∙ ap (λ (s : AbsState). with_register s Whole 7 c.args.to) c.put_register.ensures

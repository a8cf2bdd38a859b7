use Rattle.std.proofs.Common.{◌∙◌, ap}
use Rattle.ia32_semantics.specs.Effects.{Whole}
use Rattle.abs_semantics.specs.States.{AbsState}
use Rattle.abs_semantics.specs.Operands.{with_register}
use Rattle.transfer.proofs.products.put_halves.Goals as goal

pub returns : goal.returns
returns c = c.put_register-2.ensures ∙ ap (λ (s : AbsState). with_register s Whole 2 c.args.high) c.put_register.ensures

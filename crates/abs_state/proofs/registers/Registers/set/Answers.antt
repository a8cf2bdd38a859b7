use Rattle.std.proofs.Common.{◌<◌, length, refl, ◌∙◌, arith}
use Rattle.ia32_semantics.specs.State.{put}
use Rattle.abs_state.specs.Registers.{register_in}
use Rattle.abs_state.proofs.RegisterLemmas.{register_put}
use Rattle.abs_state.proofs.registers.Registers.set.Goals as goal

pub returns-clause-values : goal.returns-clause-values
returns-clause-values c =
    let vs = c.self.inside.values.items in
    let lt : c.number.result < length vs = omega (arith, c.number.ensures.below, c.self.invariant) in
    register_put vs _ c.number.result c.args.value refl lt ∙ (λ i. put (register_in (c.self.view_is i)) (c.number.ensures.value i) c.args.value)

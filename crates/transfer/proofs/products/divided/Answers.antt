use Rattle.std.proofs.Common.{[], ◌∷◌, refl, ◌∙◌, ap}
use Rattle.abs_steps.specs.Effects.{frees}
use Rattle.abs_steps.specs.Results.{known_quotient}
use Rattle.abs_steps.specs.Rows.{quotient_effects}
use Rattle.abs_steps.specs.Views.{held, value_of}
use Rattle.abs_state.specs.Views.{seen}
use Rattle.transfer.specs.Steps.{view_in}
use Rattle.transfer.proofs.StepLemmas.{both_done}
use Rattle.transfer.proofs.products.divided.Goals as goal

pub returns : goal.returns
returns c =
    let m = c.args.memory.now in
    let i = c.args.i.now in
    let s = seen c.args.a.now in
    let v = view_in m s in
    let q = known_quotient i.width c.args.signed (held v 2) (held v 0) (value_of v i.width i.dst) in
    let told = c.known_quotient-quotient.ensures ∙ (λ k. known_quotient i.width c.args.signed (c.register-high.ensures k) (c.register-low.ensures k) (c.in_ok-by.ensures k)) in
    both_done m (quotient_effects i.width q) (quotient_effects i.width c.known_quotient-quotient.result) (frees ∷ []) (frees ∷ []) s (seen c.put_quotient.new.a) (seen c.free_five.new.self)
    (ap (quotient_effects i.width) told) (c.put_quotient.ensures m) refl c.free_five.ensures

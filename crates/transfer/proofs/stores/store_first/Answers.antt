use Rattle.std.proofs.Common.{◌≡◌, List, ◌∙◌, subst}
use Rattle.std.specs.Prelude.{OnOk}
use Rattle.abs_steps.specs.Effects.{AbsEffect}
use Rattle.abs_state.specs.Views.{seen}
use Rattle.transfer.specs.Steps.{after, stored_in}
use Rattle.transfer.proofs.StepLemmas.{stored_is}
use Rattle.transfer.proofs.stores.store_first.Goals as goal

pub returns : goal.returns
returns c =
    let m = c.args.memory.now in
    let i = c.args.i.now in
    let s = seen c.args.a.now in
    subst (λ (es : List AbsEffect). OnOk c.store.result (seen c.store.new.a ≡ after m es s))
    ((λ k. stored_in (c.in_ok-target.ensures k).place (c.in_ok-target.ensures k).width c.args.value) ∙ stored_is m s i.dst i.width c.args.value)
    c.store.ensures

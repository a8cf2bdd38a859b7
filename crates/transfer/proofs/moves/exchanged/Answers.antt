use Rattle.std.proofs.Common.{◌≡◌, subst}
use Rattle.std.specs.Prelude.{OnOk}
use Rattle.abs_semantics.specs.States.{AbsState}
use Rattle.abs_steps.specs.Views.{value_of}
use Rattle.abs_state.specs.Views.{seen}
use Rattle.transfer.specs.Steps.{view_in}
use Rattle.transfer.proofs.StepLemmas.{stored_twice}
use Rattle.transfer.proofs.moves.exchanged.Goals as goal

pub returns : goal.returns
returns c =
    let m = c.args.memory.now in
    let i = c.args.i.now in
    let s = seen c.args.a.now in
    let v = view_in m s in
    subst (λ (t : AbsState). OnOk c.store.result (seen c.store.new.a ≡ t))
    (stored_twice m s (seen c.store_first.new.a) i.width i.dst i.src (value_of v i.width i.src) c.in_ok-second.second (value_of v i.width i.dst) c.in_ok-first.first c.in_ok-target.target
    c.in_ok-target.ensures c.in_ok-second.ensures c.in_ok-first.ensures c.in_ok-store_first.ensures)
    c.store.ensures

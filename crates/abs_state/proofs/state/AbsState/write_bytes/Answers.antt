use Rattle.std.proofs.Common.{◌≡◌, Some, None, sym, ◌∙◌, ap, subst}
use Rattle.std.specs.Prelude.{OnOk}
use Rattle.abs_semantics.specs.States.{AbsState as State}
use Rattle.abs_semantics.specs.Resolve.{resolve}
use Rattle.abs_state.specs.Reads.{items_of}
use Rattle.abs_state.specs.Views.{seen}
use Rattle.abs_state.proofs.ReadLemmas.{sure_known}
use Rattle.abs_state.proofs.RangeLemmas.{write_range_is}
use Rattle.abs_state.proofs.state.AbsState.write_bytes.Goals as goal

pub returns-in-None : goal.returns-in-None
returns-in-None c =
    let a = seen c.args.self.now in
    let m = c.args.memory.now in
    let sure = sure_known c.in_ok-places.places (resolve a m.procedure c.args.address.now c.args.len) c.sure_entries.result c.in_ok-places.ensures c.sure_entries.ensures in
    subst (λ (s : State). OnOk c.overwrite_anywhere.result (seen c.overwrite_anywhere.new.self ≡ s))
    (write_range_is a m.cells.now m.image.now m.procedure c.args.address.now c.args.value.now c.args.len None (sure ∙ ap items_of c.in-None.is)) c.overwrite_anywhere.ensures

pub returns-in-Some : goal.returns-in-Some
returns-in-Some c =
    let a = seen c.args.self.now in
    let m = c.args.memory.now in
    let sure = sure_known c.in_ok-places.places (resolve a m.procedure c.args.address.now c.args.len) c.sure_entries.result c.in_ok-places.ensures c.sure_entries.ensures in
    let told = write_range_is a m.cells.now m.image.now m.procedure c.args.address.now c.args.value.now c.args.len (Some c.as_slice.result.now) (sure ∙ ap items_of c.in-Some.is ∙ ap (λ xs. Some xs) (sym c.as_slice.ensures.value)) in
    subst (λ (s : State). OnOk c.write_range_to.result (seen c.write_range_to.new.self ≡ s)) told c.write_range_to.ensures

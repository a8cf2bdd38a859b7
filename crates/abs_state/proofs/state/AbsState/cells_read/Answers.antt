use Rattle.std.proofs.Common.{◌≡◌, List, Option, Some, None, sym, ◌∙◌, ap, subst}
use Rattle.std.specs.Prelude.{IfOk}
use Rattle.image_map.specs.declared.region.Cell.{Cell}
use Rattle.abs_semantics.specs.Resolve.{resolve}
use Rattle.abs_state.specs.Reads.{items_of}
use Rattle.abs_state.specs.Views.{seen}
use Rattle.abs_state.proofs.ReadLemmas.{sure_known, cells_read_is}
use Rattle.abs_state.proofs.state.AbsState.cells_read.Goals as goal

pub returns-in-None : goal.returns-in-None
returns-in-None c =
    let a = seen c.args.self.now in
    let sure = sure_known c.in_ok-places.places (resolve a c.args.procedure c.args.address.now c.args.len) c.sure_entries.result c.in_ok-places.ensures c.sure_entries.ensures in
    cells_read_is a c.args.cells.now c.args.procedure c.args.address.now c.args.len None (sure ∙ ap items_of c.in-None.is)

pub returns-in-Some : goal.returns-in-Some
returns-in-Some c =
    let a = seen c.args.self.now in
    let sure = sure_known c.in_ok-places.places (resolve a c.args.procedure c.args.address.now c.args.len) c.sure_entries.result c.in_ok-places.ensures c.sure_entries.ensures in
    let told = cells_read_is a c.args.cells.now c.args.procedure c.args.address.now c.args.len (Some c.as_slice.result.now) (sure ∙ ap items_of c.in-Some.is ∙ ap (λ xs. Some xs) (sym c.as_slice.ensures.value)) in
    subst (λ (o : Option (List Cell)). IfOk c.cells_of_few.result (λ r. items_of r ≡ o)) told c.cells_of_few.ensures

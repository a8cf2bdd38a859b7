use Rattle.std.proofs.Common.{◌≡◌, Some, None, sym, ◌∙◌, ap}
use Rattle.abs_semantics.specs.Resolve.{resolve}
use Rattle.abs_semantics.specs.Accesses.{sure_entries}
use Rattle.abs_semantics.specs.Ranges.{place_in, lone_range}
use Rattle.abs_state.specs.Reads.{items_of}
use Rattle.abs_state.specs.Views.{seen}
use Rattle.abs_state.proofs.ReadLemmas.{sure_known}
use Rattle.abs_state.proofs.RangeLemmas.{reach_of}
use Rattle.abs_state.proofs.state.AbsState.lone_range.Goals as goal

pub returns-in-None-clause-value : goal.returns-in-None-clause-value
returns-in-None-clause-value c =
    let a = seen c.args.self.now in
    let sure = sure_known c.in_ok-places.places (resolve a c.args.procedure c.args.address.now c.args.len) c.sure_entries.result c.in_ok-places.ensures c.sure_entries.ensures in
    ap place_in (sym (sure ∙ ap items_of c.in-None.is))

pub returns-in-Some-clause-value : goal.returns-in-Some-clause-value
returns-in-Some-clause-value c =
    let a = seen c.args.self.now in
    let sure = sure_known c.in_ok-places.places (resolve a c.args.procedure c.args.address.now c.args.len) c.sure_entries.result c.in_ok-places.ensures c.sure_entries.ensures in
    c.lone_place.ensures.value ∙ ap place_in (sym (sure ∙ ap items_of c.in-Some.is ∙ ap (λ xs. Some xs) (sym c.as_slice.ensures.value)))

pub returns-in-Some-clause-in_reach : goal.returns-in-Some-clause-in_reach
returns-in-Some-clause-in_reach c =
    let a = seen c.args.self.now in
    let sure = sure_known c.in_ok-places.places (resolve a c.args.procedure c.args.address.now c.args.len) c.sure_entries.result c.in_ok-places.ensures c.sure_entries.ensures in
    let told : c.lone_place.result ≡ lone_range a c.args.procedure c.args.address.now c.args.len =
    c.lone_place.ensures.value ∙ ap place_in (sym (sure ∙ ap items_of c.in-Some.is ∙ ap (λ xs. Some xs) (sym c.as_slice.ensures.value))) in
    reach_of a c.args.procedure c.args.address.now c.args.len c.lone_place.result told c.lone_place.ensures.form

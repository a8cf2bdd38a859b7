use Rattle.std.proofs.Common.{◌≡◌, Some, None, sym, ◌∙◌, subst}
use Rattle.std.specs.Prelude.{IfOk}
use Rattle.vset.specs.Values.{Values}
use Rattle.abs_state.specs.Views.{seen}
use Rattle.abs_state.proofs.RangeLemmas.{less_in_reach, read_range_is}
use Rattle.abs_state.proofs.state.AbsState.read_range.Goals as goal

pub value_behind-requires : goal.value_behind-requires
value_behind-requires c = less_in_reach c.in_ok-lone_range.field-0 c.in-Some.place c.args.piece.len c.args.piece.distance c.in_ok-lone_range.ensures.in_reach c.in-Some.is c.requires

pub returns-in-None : goal.returns-in-None
returns-in-None c =
    let q = c.args.piece in
    c.top.ensures ∙ read_range_is (seen c.args.self.now) c.args.cells.now c.args.procedure c.args.address.now q.len q.distance q.bytes None (sym c.in_ok-lone_range.ensures.value ∙ c.in-None.is)

pub returns-in-Some : goal.returns-in-Some
returns-in-Some c =
    let q = c.args.piece in
    let told = read_range_is (seen c.args.self.now) c.args.cells.now c.args.procedure c.args.address.now q.len q.distance q.bytes (Some c.in-Some.place) (sym c.in_ok-lone_range.ensures.value ∙ c.in-Some.is) in
    subst (λ (u : Values). IfOk c.value_behind.result (λ v. v ≡ u)) told c.value_behind.ensures

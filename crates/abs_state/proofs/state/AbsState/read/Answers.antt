use Rattle.std.proofs.Common.{◌≡◌, Some, None, sym, ◌∙◌, ap, subst}
use Rattle.std.specs.Prelude.{IfOk}
use Rattle.vset.specs.Values.{Values}
use Rattle.abs_state.specs.Reads.{items_of}
use Rattle.abs_state.specs.Views.{seen}
use Rattle.abs_state.proofs.ReadLemmas.{read_is}
use Rattle.abs_state.proofs.state.AbsState.read.Goals as goal

pub returns-in-None : goal.returns-in-None
returns-in-None c =
    c.top.ensures ∙ read_is (seen c.args.self.now) c.args.cells.now c.args.procedure c.args.address.now c.args.len None (sym c.in_ok-cells_read.ensures ∙ ap items_of c.in-None.is)

pub returns-in-Some : goal.returns-in-Some
returns-in-Some c =
    let told = read_is (seen c.args.self.now) c.args.cells.now c.args.procedure c.args.address.now c.args.len (Some c.as_slice.result.now) (sym c.in_ok-cells_read.ensures ∙ ap items_of c.in-Some.is ∙ ap (λ xs. Some xs) (sym c.as_slice.ensures.value)) in
    subst (λ (w : Values). IfOk c.joined.result (λ v. v ≡ w)) told c.joined.ensures

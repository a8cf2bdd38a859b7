use Rattle.std.proofs.Common.{◌≡◌, cond, ◌∙◌, ap}
use Rattle.image_map.specs.Regions.{same_cell}
use Rattle.abs_semantics.specs.States.{value_in, with_value, rebuilt}
use Rattle.abs_state.specs.declared.state.AbsState.{AbsState}
use Rattle.abs_state.specs.Views.{seen}
use Rattle.call_states.proofs.CellLemmas.{assigned_cells}
use Rattle.transfer_flow.proofs.branches.with_cell_value.Goals as goal

pub returns : goal.returns
returns c =
    let a : AbsState = c.args.a.now in
    let x = c.args.cell.now in
    let v = c.args.value in
    let before : c.in_ok-out.out ≡ a = c.in_ok-out.ensures.cases in
    let cells =
    c.in_ok-put.ensures.ok ∙ ap (with_value x v) c.in_ok-change.ensures
    ∙ ap (λ (s : AbsState). with_value x v (rebuilt (λ d. cond (same_cell d x) v (value_in d s.cells)) s.cells)) before
    ∙ assigned_cells x v a.cells in
    λ i. record (seen (before i)) { cells = cells i }

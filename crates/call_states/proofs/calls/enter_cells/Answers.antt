use Rattle.std.proofs.Common.{sym, ◌∙◌}
use Rattle.abs_semantics.specs.States.{AbsState, with_value}
use Rattle.abs_state.specs.Views.{seen}
use Rattle.call_states.proofs.CellLemmas.{entered_slot, entered_nowhere}
use Rattle.call_states.proofs.calls.enter_cells.Goals as goal

pub returns-then-not-is_slot_cell : goal.returns-then-not-is_slot_cell
returns-then-not-is_slot_cell c =
    let s : AbsState = seen c.args.a.now in
    let k = c.args.call.now in
    let nowhere = sym c.is_slot_cell.ensures ∙ c.if-not-is_slot_cell.true in
    c.in_ok-clear.ensures ∙ (λ i. record s { cells = entered_nowhere c.args.cells.now k.callee k.next s nowhere i })

pub returns : goal.returns
returns c =
    let s : AbsState = seen c.args.a.now in
    let k = c.args.call.now in
    let there = sym c.is_slot_cell.ensures ∙ c.if-not-is_slot_cell.false in
    let put =
    c.in_ok-put.ensures.ok ∙ (λ i. with_value (c.return_slot.ensures i) (c.word_number.ensures i) (c.in_ok-clear.ensures i).cells)
    ∙ entered_slot c.args.cells.now k.callee k.next s there in
    λ i. record (c.in_ok-clear.ensures i) { cells = put i }

use Rattle.std.proofs.Common.{sym, ◌∙◌, ap}
use Rattle.vset.specs.Values.{Values}
use Rattle.image_map.specs.declared.region.Cell.{Cell}
use Rattle.abs_semantics.specs.States.{with_value}
use Rattle.abs_steps.specs.Calls.{as_of}
use Rattle.call_states.specs.Moving.{moved_value}
use Rattle.call_states.proofs.CellLemmas.{is_taken, not_taken}
use Rattle.call_states.proofs.moving.put_taken.Goals as goal

pub returns-in_ok-put : goal.returns-in_ok-put
returns-in_ok-put c =
    let f : Cell → Values = moved_value c.args.cells.now c.args.change.now in
    is_taken f c.args.change.now.from c.args.change.now.to c.args.entry.now c.args.out.now c.put.new.self (sym c.eq.ensures ∙ c.if-eq.true)
    (c.in_ok-put.ensures.ok ∙ (λ i. with_value (c.as_of-cell.ensures i) (c.in_ok-value.ensures i) c.args.out.now) ∙ ap (λ (x : Cell). with_value (as_of c.args.change.now.to c.args.entry.now.cell) (f x) c.args.out.now) c.as_of-cell.ensures)

pub returns-else-eq : goal.returns-else-eq
returns-else-eq c =
    not_taken (moved_value c.args.cells.now c.args.change.now) c.args.change.now.from c.args.change.now.to c.args.entry.now c.args.out.now (sym c.eq.ensures ∙ c.if-eq.false)

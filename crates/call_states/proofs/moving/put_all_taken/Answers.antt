use Rattle.call_states.specs.Moving.{moved_value}
use Rattle.call_states.proofs.CellLemmas.{taken_step, taken_end}
use Rattle.call_states.proofs.moving.put_all_taken.Goals as goal

pub loop-entry-preserved : goal.loop-entry-preserved
loop-entry-preserved c =
    taken_step (moved_value c.args.cells.now c.args.change.now) c.args.change.now.from c.args.change.now.to c.args.entries.now c.loop-entry.entry-index c.entry-item.result c.loop-entry.out _ _ c.loop-entry-test.true c.entry-item.is c.in_ok-put_taken.ensures c.loop-entry.invariant

pub returns : goal.returns
returns c =
    taken_end (moved_value c.args.cells.now c.args.change.now) c.args.change.now.from c.args.change.now.to c.args.entries.now c.loop-entry.entry-index c.loop-entry.out _ c.loop-entry-test.false c.loop-entry.invariant

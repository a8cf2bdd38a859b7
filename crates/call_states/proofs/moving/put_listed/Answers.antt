use Rattle.std.proofs.Common.{◌∙◌, ap}
use Rattle.abs_semantics.specs.States.{with_value}
use Rattle.call_states.specs.Moving.{moved_value}
use Rattle.call_states.proofs.CellLemmas.{put_step, put_end}
use Rattle.call_states.proofs.moving.put_listed.Goals as goal

pub loop-entry-preserved : goal.loop-entry-preserved
loop-entry-preserved c =
    put_step (moved_value c.args.cells.now c.args.change.now) c.args.entries.now c.loop-entry.entry-index c.entry-item.result c.loop-entry.out _ _ c.loop-entry-test.true c.entry-item.is
    (c.in_ok-put.ensures.ok ∙ ap (λ v. with_value c.entry-item.result.cell v c.loop-entry.out) c.in_ok-value.ensures) c.loop-entry.invariant

pub returns : goal.returns
returns c = put_end (moved_value c.args.cells.now c.args.change.now) c.args.entries.now c.loop-entry.entry-index c.loop-entry.out _ c.loop-entry-test.false c.loop-entry.invariant

use Rattle.abs_state.specs.Writes.{put_value}
use Rattle.abs_state.proofs.FoldLemmas.{fold_step, fold_end}
use Rattle.abs_state.proofs.writes.put_all.Goals as goal

pub loop-e-preserved : goal.loop-e-preserved
loop-e-preserved c =
    fold_step put_value c.loop-e.rest.now c.in-Some.before.now c.in-Some.e.now c.loop-e.cells _ _ c.in-Some.ensures.cases.0 c.in_ok-put.ensures c.loop-e.invariant

pub returns : goal.returns
returns c = fold_end put_value c.loop-e.rest.now c.loop-e.cells _ c.in_default.ensures.cases c.loop-e.invariant

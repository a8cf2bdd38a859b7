use Rattle.flow_graph.proofs.WalkLemmas.{IsBelow}
use Rattle.dynamic_slices.specs.Marks.{Marks}
use Rattle.dynamic_slices.proofs.marks.mark_all.Given as goal

abbrev pub invariant-loop-step : goal.invariant-loop-step
invariant-loop-step l = Marks (IsBelow l.steps l.step-index) l.initial.marks l.marks

use Rattle.std.proofs.Common.{◌≡◌, Bool, length}
use Rattle.flow_graph.specs.Rows.{room}
use Rattle.matched_calls.specs.Summaries.{Raises}
use Rattle.matched_calls.proofs.summary.summarize.Given as goal

abbrev pub invariant-loop : goal.invariant-loop
invariant-loop l = record {
  rows : length l.rows ≡ length l.initial.rows;
  raises : (changed : Bool) × Raises l.ground.nodes.now l.ground.kinds.now l.initial.kept l.kept changed;
}

abbrev pub decreases-loop : goal.decreases-loop
decreases-loop l = room l.kept

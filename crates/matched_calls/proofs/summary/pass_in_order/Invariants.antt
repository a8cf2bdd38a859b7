use Rattle.std.proofs.Common.{◌≡◌, Bool, length}
use Rattle.matched_calls.specs.Summaries.{Raises}
use Rattle.matched_calls.proofs.summary.pass_in_order.Given as goal

abbrev pub invariant-loop-j : goal.invariant-loop-j
invariant-loop-j l = record {
  rows : length l.rows ≡ length l.initial.rows;
  raises : (changed : Bool) × Raises l.ground.nodes.now l.ground.kinds.now l.initial.kept l.kept changed;
}

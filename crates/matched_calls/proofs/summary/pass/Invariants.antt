use Rattle.std.proofs.Common.{◌≡◌, length}
use Rattle.matched_calls.proofs.SummaryLemmas.{Passed}
use Rattle.matched_calls.proofs.summary.pass.Given as goal

abbrev pub invariant-loop-j : goal.invariant-loop-j
invariant-loop-j l = record {
  rows : length l.rows ≡ length l.initial.rows;
  passed : Passed l.ground.nodes.now l.ground.kinds.now l.ground.plan.now l.initial.kept l.kept l.changed l.j;
}

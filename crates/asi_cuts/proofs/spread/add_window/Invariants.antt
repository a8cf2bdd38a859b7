use Rattle.std.proofs.Common.{◌≤◌, ◌-◌}
use Rattle.asi_cuts.specs.Adding.{IsInWindow}
use Rattle.asi_cuts.proofs.AddLemmas.{Reached}
use Rattle.asi_cuts.proofs.WindowLemmas.{IsDone}
use Rattle.asi_cuts.proofs.spread.add_window.Given as goal

abbrev pub invariant-loop-number : goal.invariant-loop-number
invariant-loop-number l = record {
  behind : l.initial.number ≤ l.number;
  reached : Reached (IsInWindow l.fn.row l.low l.high) (IsDone l.fn.row l.initial.number l.number) l.fn.set l.set;
}

abbrev pub decreases-loop-number : goal.decreases-loop-number
decreases-loop-number l = l.within - l.number

use Rattle.std.proofs.Common.{◌-◌}
use Rattle.asi_cuts.proofs.ClosingLemmas.{Followed}
use Rattle.asi_cuts.proofs.spread.add_forced.Given as goal

abbrev pub invariant-loop-cut : goal.invariant-loop-cut
invariant-loop-cut l = Followed l.segments l.kept l.facts l.followed l.set

abbrev pub decreases-loop-cut : goal.decreases-loop-cut
decreases-loop-cut l = 1025 - l.followed

use Rattle.std.proofs.Common.{◌≤◌, ◌+◌, ◌-◌}
use Rattle.first_cuts.specs.Constants.{scanned}
use Rattle.first_cuts.specs.Taking.{taken_from}
use Rattle.first_cuts.proofs.ScanLemmas.{IsScanned}
use Rattle.first_cuts.proofs.constants.take_scanned.Given as goal

abbrev pub invariant-loop-passed : goal.invariant-loop-passed
invariant-loop-passed l =
    (l.passed ≤ l.count + 255)
    × IsScanned l.image l.start l.count l.passed l.taken.items (taken_from l.image l.initial.taken.items (scanned l.image 0 l.count l.start))

abbrev pub decreases-loop-passed : goal.decreases-loop-passed
decreases-loop-passed l = l.count - l.passed

use Rattle.std.proofs.Common.{◌≡◌, ◌++◌, drop}
use Rattle.asi_cuts.specs.Listing.{run}
use Rattle.asi_cuts.proofs.lists.run_of.Given as goal

abbrev pub invariant-loop-cut : goal.invariant-loop-cut
invariant-loop-cut l = l.offsets ++ run l.region (drop l.cut-index l.cuts) ≡ run l.region l.cuts

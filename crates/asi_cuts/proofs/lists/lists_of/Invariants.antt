use Rattle.std.proofs.Common.{length, ◌-◌}
use Rattle.asi_cuts.proofs.ListingLemmas.{Listed}
use Rattle.asi_cuts.proofs.lists.lists_of.Given as goal

abbrev pub invariant-loop-listed : goal.invariant-loop-listed
invariant-loop-listed l = Listed l.cuts l.listed l.lists

abbrev pub decreases-loop-listed : goal.decreases-loop-listed
decreases-loop-listed l = length l.cuts - l.listed

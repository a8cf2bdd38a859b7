use Rattle.std.proofs.Common.{length}
use Rattle.round_slots.specs.Ends.{AreAdmitted}
use Rattle.round_slots.proofs.make.put_firsts.Given as goal

abbrev pub invariant-loop-value : goal.invariant-loop-value
invariant-loop-value g l = AreAdmitted g.T.Numbered.belongs l.first.items l.fn.rows

abbrev pub decreases-loop-value : goal.decreases-loop-value
decreases-loop-value g l = length l.first.items

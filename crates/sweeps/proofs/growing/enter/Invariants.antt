use Rattle.std.proofs.Common.{length}
use Rattle.sweeps.proofs.CodeLemmas.{EnteredTo}
use Rattle.sweeps.proofs.growing.enter.Given as goal

abbrev pub invariant-entering : goal.invariant-entering
invariant-entering g l = EnteredTo (g.D.Domain.meaning l.domain) l.initial.kept.items l.initial.left.items l.kept.items l.left.items

abbrev pub decreases-entering : goal.decreases-entering
decreases-entering g l = length l.left.items

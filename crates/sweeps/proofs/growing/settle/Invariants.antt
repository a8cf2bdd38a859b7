use Rattle.sweeps.proofs.StepLemmas.{ZippedTo}
use Rattle.sweeps.specs.Kept.{settled_by}
use Rattle.sweeps.proofs.growing.settle.Given as goal

abbrev pub invariant-loop-at : goal.invariant-loop-at
invariant-loop-at g l = ZippedTo (settled_by (g.D.Domain.meaning l.domain) l.grows) l.initial.kept.items l.initial.slots l.kept.items l.slots l.at

use Rattle.sweeps.proofs.WholeLemmas.{Reached}
use Rattle.sweeps.proofs.whole.grow_all.Given as goal

abbrev pub invariant-loop-sweep : goal.invariant-loop-sweep
invariant-loop-sweep g l = Reached (g.D.Domain.meaning l.domain) l.most l.entry l.fn.initial l.sweep l.kept.items l.full

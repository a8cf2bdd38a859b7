use Rattle.sweeps.proofs.ClosedLemmas.{AreAbove}
use Rattle.sweeps.proofs.closed.is_closed.Given as goal

abbrev pub invariant-loop-place : goal.invariant-loop-place
invariant-loop-place g l = AreAbove (g.D.Domain.meaning l.domain) l.entry l.fn.initial l.table l.place-index

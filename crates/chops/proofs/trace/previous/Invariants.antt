use Rattle.chops.proofs.TraceLemmas.{IsBefore}
use Rattle.chops.proofs.trace.previous.Given as goal

abbrev pub invariant-loop-arrow : goal.invariant-loop-arrow
invariant-loop-arrow l = IsBefore l.arrows l.counts l.node l.arrow-index l.best

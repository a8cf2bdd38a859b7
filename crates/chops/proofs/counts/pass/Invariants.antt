use Rattle.chops.proofs.CountLemmas.{Passed}
use Rattle.chops.proofs.counts.pass.Given as goal

abbrev pub invariant-loop-arrow : goal.invariant-loop-arrow
invariant-loop-arrow l = Passed l.arrows l.initial.counts l.counts l.changed l.arrow-index

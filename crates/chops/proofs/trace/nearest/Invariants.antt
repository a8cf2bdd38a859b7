use Rattle.chops.specs.Counts.{IsNearest}
use Rattle.chops.proofs.trace.nearest.Given as goal

abbrev pub invariant-loop-n : goal.invariant-loop-n
invariant-loop-n l = IsNearest l.nodes l.at l.counts l.n l.best.0 l.best.1

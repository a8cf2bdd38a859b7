use Rattle.std.specs.Prelude.{slice_index}
use Rattle.chops.proofs.TraceLemmas.{Falling}
use Rattle.chops.proofs.trace.trace_back.Given as goal

abbrev pub invariant-loop-node : goal.invariant-loop-node
invariant-loop-node l = Falling l.arrows l.counts l.end l.trace.items l.node

abbrev pub decreases-loop-node : goal.decreases-loop-node
decreases-loop-node l = slice_index l.counts l.node

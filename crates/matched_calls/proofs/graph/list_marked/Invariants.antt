use Rattle.std.proofs.Common.{[]}
use Rattle.chops.specs.Pairs.{AddsPairs}
use Rattle.matched_calls.proofs.GraphLemmas.{MarkedBelow}
use Rattle.matched_calls.proofs.graph.list_marked.Given as goal

abbrev pub invariant-loop-pair : goal.invariant-loop-pair
invariant-loop-pair l = AddsPairs (MarkedBelow l.pairs l.marks l.pair-index) [] l.list.items

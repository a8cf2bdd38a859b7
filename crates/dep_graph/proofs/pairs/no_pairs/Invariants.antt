use Rattle.std.proofs.Common.{◌≡◌, replicate, false}
use Rattle.dep_graph.proofs.pairs.no_pairs.Given as goal

abbrev pub invariant-loop : goal.invariant-loop
invariant-loop l = l.pairs.items ≡ replicate l.counter (replicate l.count false)

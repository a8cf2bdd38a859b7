use Rattle.std.proofs.Common.{length}
use Rattle.dep_graph.specs.Edges.{RowHit}
use Rattle.dep_graph.proofs.PairLemmas.{Adding}
use Rattle.dep_graph.proofs.spread.add_rows.Given as goal

abbrev pub invariant-loop-m : goal.invariant-loop-m
invariant-loop-m l = Adding (length l.ground.nodes.now) (RowHit l.ground.nodes.now l.rows l.ground.place l.targets) l.initial.pairs l.pairs l.m

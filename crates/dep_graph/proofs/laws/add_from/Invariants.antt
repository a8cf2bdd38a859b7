use Rattle.dep_graph.proofs.WalkedLemmas.{Walked}
use Rattle.dep_graph.proofs.laws.add_from.Given as goal

abbrev pub invariant-loop-place : goal.invariant-loop-place
invariant-loop-place l = Walked l.nodes l.is_sp l.places l.from l.initial.row l.row l.place-index

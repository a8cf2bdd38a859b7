use Rattle.dep_graph.proofs.PlaceLemmas.{HasUses}
use Rattle.dep_graph.proofs.edges.add_uses.Given as goal

abbrev pub invariant-loop-place : goal.invariant-loop-place
invariant-loop-place l = HasUses l.initial.places.items l.uses l.places.items l.place-index

use Rattle.std.proofs.Common.{ℕ}
use Rattle.std.specs.Prelude.{◌↔◌, Contains}
use Rattle.dep_graph.proofs.PlaceLemmas.{UsedBelow}
use Rattle.dep_graph.proofs.edges.used_places.Given as goal

abbrev pub invariant-loop-node : goal.invariant-loop-node
invariant-loop-node l = (place : ℕ) → Contains l.places.items place ↔ UsedBelow l.nodes l.node-index place

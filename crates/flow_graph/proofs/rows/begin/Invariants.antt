use Rattle.std.proofs.Common.{ℕ, length}
use Rattle.std.specs.Prelude.{◌↔◌}
use Rattle.flow_graph.specs.Rows.{HasBit, BeginsAt}
use Rattle.flow_graph.proofs.rows.begin.Given as goal

abbrev pub invariant-loop-k : goal.invariant-loop-k
invariant-loop-k l = (n j : ℕ) → HasBit l.rows n j ↔ BeginsAt l.nodes (length l.rows) l.k n j

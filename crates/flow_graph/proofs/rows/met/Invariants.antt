use Rattle.std.proofs.Common.{ℕ}
use Rattle.std.specs.Prelude.{◌↔◌}
use Rattle.flow_graph.specs.Rows.{IsBit}
use Rattle.flow_graph.proofs.RowLemmas.{SomeBelow}
use Rattle.flow_graph.proofs.rows.met.Given as goal

abbrev pub invariant-loop-node : goal.invariant-loop-node
invariant-loop-node l = (k : ℕ) → IsBit l.word k ↔ SomeBelow l.rows l.nodes l.node-index k

use Rattle.flow_graph.proofs.RowLemmas.{Risen}
use Rattle.flow_graph.proofs.rows.sweep_in_order.Given as goal

abbrev pub invariant-loop-node : goal.invariant-loop-node
invariant-loop-node l = Risen l.nodes l.kept l.initial.rows l.rows

use Rattle.flow_graph.proofs.RowLemmas.{Swept}
use Rattle.flow_graph.proofs.rows.sweep.Given as goal

abbrev pub invariant-loop-node : goal.invariant-loop-node
invariant-loop-node l = Swept l.nodes l.kept l.initial.rows l.rows l.changed l.node

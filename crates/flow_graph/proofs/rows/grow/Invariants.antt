use Rattle.flow_graph.specs.Rows.{Grows, room}
use Rattle.flow_graph.proofs.rows.grow.Given as goal

abbrev pub invariant-loop : goal.invariant-loop
invariant-loop l = Grows l.nodes l.kept l.initial.rows l.rows

abbrev pub decreases-loop : goal.decreases-loop
decreases-loop l = room l.rows

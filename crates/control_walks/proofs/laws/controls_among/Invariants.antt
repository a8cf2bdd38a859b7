use Rattle.control_walks.specs.Plain.{ControlsFrom}
use Rattle.control_walks.proofs.SplitLemmas.{NoneBelow}
use Rattle.control_walks.proofs.laws.controls_among.Given as goal

abbrev pub invariant-loop-x : goal.invariant-loop-x
invariant-loop-x l = NoneBelow (ControlsFrom l.graph.nodes l.node l.next) l.next l.x-index

use Rattle.control_walks.specs.Plain.{ControlsBy}
use Rattle.control_walks.proofs.SplitLemmas.{NoneBelow}
use Rattle.control_walks.proofs.laws.controls_from.Given as goal

abbrev pub invariant-loop-y : goal.invariant-loop-y
invariant-loop-y l = NoneBelow (ControlsBy l.graph.nodes l.node l.x) l.others l.y-index

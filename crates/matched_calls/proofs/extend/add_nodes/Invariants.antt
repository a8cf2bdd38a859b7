use Rattle.matched_calls.specs.Adding.{IsGrown}
use Rattle.matched_calls.specs.Extended.{IsNext}
use Rattle.matched_calls.proofs.extend.add_nodes.Given as goal

abbrev pub invariant-loop-node : goal.invariant-loop-node
invariant-loop-node l = IsGrown (IsNext l.nodes l.kinds l.phase) l.node l.extended.items

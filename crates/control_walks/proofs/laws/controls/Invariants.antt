use Rattle.control_walks.specs.ControlWalks.{Controls}
use Rattle.flow_graph.proofs.RisingLemmas.{Lists}
use Rattle.control_walks.proofs.laws.controls.Given as goal

abbrev pub invariant-loop-branch : goal.invariant-loop-branch
invariant-loop-branch l = Lists (λ b. Controls l.graph.nodes b l.node) l.branches.items l.branch

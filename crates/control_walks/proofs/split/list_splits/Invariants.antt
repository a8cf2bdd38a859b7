use Rattle.std.proofs.Common.{take, ◌≤◌}
use Rattle.control_walks.specs.Floods.{Splits}
use Rattle.flow_graph.proofs.RisingLemmas.{Lists}
use Rattle.control_walks.proofs.split.list_splits.Given as goal

abbrev pub invariant-loop-branch : goal.invariant-loop-branch
invariant-loop-branch l = record {
  within : l.count ≤ l.branch;
  lists : Lists (Splits l.nodes l.reaching l.escaping) (take l.count l.list) l.branch;
}

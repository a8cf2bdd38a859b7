use Rattle.flow_graph.proofs.RisingLemmas.{Lists}
use Rattle.matched_calls.specs.Phases.{IsCall}
use Rattle.matched_calls.proofs.sites.entries.Given as goal

abbrev pub invariant-loop-entry : goal.invariant-loop-entry
invariant-loop-entry l = Lists (IsCall l.nodes l.kinds l.call) l.list.items l.entry

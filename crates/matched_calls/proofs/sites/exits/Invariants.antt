use Rattle.flow_graph.proofs.RisingLemmas.{Lists}
use Rattle.matched_calls.specs.Phases.{IsReturn}
use Rattle.matched_calls.proofs.sites.exits.Given as goal

abbrev pub invariant-loop-exit : goal.invariant-loop-exit
invariant-loop-exit l = Lists (λ x. IsReturn l.nodes l.kinds x l.back) l.list.items l.exit

use Rattle.flow_graph.proofs.RisingLemmas.{Lists}
use Rattle.dep_graph.proofs.def_rows.numbers.Given as goal

abbrev pub invariant-loop-n : goal.invariant-loop-n
invariant-loop-n l = Lists (λ _. Unit {0}) l.list.items l.n

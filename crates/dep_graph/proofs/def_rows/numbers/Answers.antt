use Rattle.std.proofs.Common.{true, refl, arith}
use Rattle.flow_graph.proofs.RisingLemmas.{lists-more}
use Rattle.dep_graph.proofs.def_rows.numbers.Goals as goal

pub loop-n-preserved : goal.loop-n-preserved
loop-n-preserved c =
    lists-more (λ _. Unit {0}) c.loop-n.list.items c.push.new.self.items c.loop-n.n true (λ _. tt, λ _. refl) c.in_ok-push.ensures.items c.loop-n.invariant

pub returns : goal.returns
returns c = λ n.
    let listed = c.loop-n.invariant.listed n in
    (λ among. let low = (listed.0 among).0 in omega (arith, low), λ within. listed.1 (omega (arith, within), tt))

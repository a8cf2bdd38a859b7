use Rattle.std.proofs.Common.{arith}
use Rattle.std.specs.Prelude.{Contains}
use Rattle.flow_graph.specs.FlowGraph.{MayUse}
use Rattle.flow_graph.proofs.GraphLaws.{Has-within}
use Rattle.flow_graph.proofs.RisingLemmas.{lists-more}
use Rattle.dep_graph.proofs.SpreadLemmas.{uses-at}
use Rattle.dep_graph.proofs.edges.users.Goals as goal

pub loop-n-preserved : goal.loop-n-preserved
loop-n-preserved c =
    lists-more (MayUse c.args.nodes.now c.args.place) c.loop-n.list.items c.push_if.new.list.items c.loop-n.n c.may_use-is_listed.result
    (uses-at c.args.nodes.now c.args.place c.loop-n.n c.index-nodes-n.result c.may_use-is_listed.result c.loop-n-test.true
    c.index-nodes-n.is c.may_use-is_listed.ensures)
    c.in_ok-push_if.ensures c.loop-n.invariant

pub returns : goal.returns
returns c = λ n.
    let listed = c.loop-n.invariant.listed n in (
      λ among. (listed.0 among).1,
      λ uses. listed.1 ((let within = Has-within c.args.nodes.now n (λ node. Contains node.may_use c.args.place) uses in omega (arith, within)), uses),
    )

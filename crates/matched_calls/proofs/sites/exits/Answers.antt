use Rattle.std.proofs.Common.{arith}
use Rattle.flow_graph.proofs.RisingLemmas.{lists-more}
use Rattle.matched_calls.specs.Phases.{IsReturn}
use Rattle.matched_calls.proofs.ExtendLemmas.{lists_all}
use Rattle.matched_calls.proofs.sites.exits.Goals as goal

pub loop-exit-preserved : goal.loop-exit-preserved
loop-exit-preserved c =
    lists-more (λ x. IsReturn c.args.nodes.now c.args.kinds.now x c.args.back) c.loop-exit.list.items c.push_if.new.list.items c.loop-exit.exit c.is_return-is_listed.result
    c.is_return-is_listed.ensures c.in_ok-push_if.ensures c.loop-exit.invariant

pub returns : goal.returns
returns c = lists_all (λ x. IsReturn c.args.nodes.now c.args.kinds.now x c.args.back) c.args.nodes.now c.loop-exit.list.items c.loop-exit.exit (omega arith) c.loop-exit.invariant

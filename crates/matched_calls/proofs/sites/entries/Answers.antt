use Rattle.std.proofs.Common.{arith}
use Rattle.flow_graph.proofs.RisingLemmas.{lists-more}
use Rattle.matched_calls.specs.Phases.{IsCall}
use Rattle.matched_calls.proofs.ExtendLemmas.{lists_all}
use Rattle.matched_calls.proofs.sites.entries.Goals as goal

pub loop-entry-preserved : goal.loop-entry-preserved
loop-entry-preserved c =
    lists-more (IsCall c.args.nodes.now c.args.kinds.now c.args.call) c.loop-entry.list.items c.push_if.new.list.items c.loop-entry.entry c.is_call-is_listed.result
    c.is_call-is_listed.ensures c.in_ok-push_if.ensures c.loop-entry.invariant

pub returns : goal.returns
returns c = lists_all (IsCall c.args.nodes.now c.args.kinds.now c.args.call) c.args.nodes.now c.loop-entry.list.items c.loop-entry.entry (omega arith) c.loop-entry.invariant

use Rattle.std.proofs.Common.{◌∙◌, sym}
use Rattle.std.specs.Borrow.{Bor}
use Rattle.std.proofs.lemmas.Simd.{map-map}
use Rattle.call_strings.specs.declared.context.Node.{Node}
use Rattle.abs_state.specs.declared.state.AbsState.{AbsState}
use Rattle.transfer_flow.specs.Successors.{placed_of, states_of}
use Rattle.access_facts.specs.Flow.{flow_node, flow}
use Rattle.access_facts.proofs.LoopLemmas.{map_step, map_end}
use Rattle.access_facts.proofs.graph.flow_nodes.Goals as goal

pub loop-other-preserved : goal.loop-other-preserved
loop-other-preserved c =
    let p = c.args.program.now in
    map_step (λ (o : Bor Node × Bor AbsState). flow_node p.image.now p.settings.now (states_of p c.args.placed.now) (placed_of o)) c.args.placed.now c.loop-other.other-index c.other-item.result c.in_ok-node.node c.loop-other.nodes.items _ _
    c.loop-other-test.true c.other-item.is c.in_ok-node.ensures c.in_ok-push.ensures.items c.loop-other.invariant

pub returns : goal.returns
unfolding flow
returns c =
    let p = c.args.program.now in
    map_end (λ (o : Bor Node × Bor AbsState). flow_node p.image.now p.settings.now (states_of p c.args.placed.now) (placed_of o)) c.args.placed.now c.loop-other.other-index c.loop-other.nodes.items _ c.loop-other-test.false
    c.loop-other.invariant
    ∙ sym (map-map (flow_node p.image.now p.settings.now (states_of p c.args.placed.now)) placed_of c.args.placed.now)

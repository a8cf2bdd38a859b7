use Rattle.std.proofs.Common.{[]}
use Rattle.std.specs.Prelude.{map}
use Rattle.transfer_flow.specs.Successors.{placed_of, states_of, caller_by, if_near}
use Rattle.call_states.proofs.LoopLemmas.{flat_step, flat_end}
use Rattle.transfer_flow.proofs.returning.callers.Goals as goal

pub loop-other-preserved : goal.loop-other-preserved
loop-other-preserved c =
    let p = c.args.site.now.program.now in
    flat_step (λ o. if_near p.image.now p.settings.now (states_of p []) c.args.site.now.node.now c.args.links.now (placed_of o)) c.args.others.now c.loop-other.other-index c.other-item.result (map caller_by c.loop-other.out.items) _ _ c.loop-other-test.true c.other-item.is c.in_ok-put_caller.ensures c.loop-other.invariant

pub returns : goal.returns
returns c =
    let p = c.args.site.now.program.now in
    flat_end (λ o. if_near p.image.now p.settings.now (states_of p []) c.args.site.now.node.now c.args.links.now (placed_of o)) c.args.others.now c.loop-other.other-index (map caller_by c.loop-other.out.items) _ c.loop-other-test.false c.loop-other.invariant

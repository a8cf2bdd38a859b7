use Rattle.std.specs.Prelude.{map}
use Rattle.abs_state.specs.Views.{seen}
use Rattle.transfer_flow.specs.Successors.{all_placed, caller_by, by_link}
use Rattle.call_states.proofs.LoopLemmas.{flat_step, flat_end}
use Rattle.transfer_flow.proofs.returning.by_links.Goals as goal

pub loop-link-preserved : goal.loop-link-preserved
loop-link-preserved c =
    let e = c.args.ending.now in
    flat_step (by_link (map caller_by c.args.callers.now) e.procedure e.extra (seen e.from.now)) c.args.links.now c.loop-link.link-index c.link-item.result (all_placed c.loop-link.out.items) _ _ c.loop-link-test.true c.link-item.is c.in_ok-put_by_link.ensures c.loop-link.invariant

pub returns : goal.returns
returns c =
    let e = c.args.ending.now in
    flat_end (by_link (map caller_by c.args.callers.now) e.procedure e.extra (seen e.from.now)) c.args.links.now c.loop-link.link-index (all_placed c.loop-link.out.items) _ c.loop-link-test.false c.loop-link.invariant

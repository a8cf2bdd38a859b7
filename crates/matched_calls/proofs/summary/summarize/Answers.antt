use Rattle.std.proofs.Common.{◌∙◌, refl, arith}
use Rattle.std.specs.Prelude.{◌||◌}
use Rattle.matched_calls.proofs.SummaryLemmas.{none_sound, raises_then, tight_summary}
use Rattle.matched_calls.proofs.summary.summarize.Goals as goal

pub returns-then-not-pass-clause-summary : goal.returns-then-not-pass-clause-summary
returns-then-not-pass-clause-summary c =
    let one = c.loop.invariant.raises.1.len in
    let two = c.pass_in_order.ensures.raises.1.len in
    let three = c.pass.ensures.raises.len in
    let room = c.requires.room in
    tight_summary c.args.ground.now.nodes.now c.args.ground.now.kinds.now c.args.ground.now.plan.now c.requires.plan c.pass.new.kept (omega (arith, one, two, three, room))
    (c.pass.ensures.raises.sound (c.pass_in_order.ensures.raises.1.sound (c.loop.invariant.raises.1.sound (none_sound c.args.ground.now.nodes.now c.args.ground.now.kinds.now c.args.kept.now c.requires.none)))) (c.if-not-pass.ensures.tight refl)

pub loop-preserved : goal.loop-preserved
loop-preserved c = record {
  rows = c.pass.ensures.rows ∙ c.pass_in_order.ensures.rows ∙ c.loop.invariant.rows;
  raises = (
    (c.loop.invariant.raises.0 || c.pass_in_order.ensures.raises.0) || c.pass.result,
    raises_then c.args.ground.now.nodes.now c.args.ground.now.kinds.now c.args.kept.now c.pass_in_order.new.kept c.pass.new.kept (c.loop.invariant.raises.0 || c.pass_in_order.ensures.raises.0) c.pass.result
        (raises_then c.args.ground.now.nodes.now c.args.ground.now.kinds.now c.args.kept.now c.loop.kept c.pass_in_order.new.kept c.loop.invariant.raises.0 c.pass_in_order.ensures.raises.0 c.loop.invariant.raises.1 c.pass_in_order.ensures.raises.1)
        c.pass.ensures.raises,
  );
}

pub returns-then-not-pass-clause-len : goal.returns-then-not-pass-clause-len
returns-then-not-pass-clause-len c =
    let one = c.loop.invariant.raises.1.len in
    let two = c.pass_in_order.ensures.raises.1.len in
    let three = c.pass.ensures.raises.len in
    let room = c.requires.room in
    omega (arith, one, two, three, room)

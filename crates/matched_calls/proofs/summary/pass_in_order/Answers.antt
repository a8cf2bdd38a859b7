use Rattle.std.proofs.Common.{◌∙◌}
use Rattle.std.specs.Prelude.{◌||◌}
use Rattle.matched_calls.proofs.SummaryLemmas.{raises_then}
use Rattle.matched_calls.proofs.summary.pass_in_order.Goals as goal

pub loop-j-preserved : goal.loop-j-preserved
loop-j-preserved c = record {
  rows = c.try_back.ensures.rows ∙ c.loop-j.invariant.rows;
  raises = (
    c.loop-j.invariant.raises.0 || c.try_back.ensures.raises.0,
    raises_then c.args.ground.now.nodes.now c.args.ground.now.kinds.now c.args.kept.now c.loop-j.kept c.try_back.new.kept c.loop-j.invariant.raises.0 c.try_back.ensures.raises.0 c.loop-j.invariant.raises.1 c.try_back.ensures.raises.1,
  );
}

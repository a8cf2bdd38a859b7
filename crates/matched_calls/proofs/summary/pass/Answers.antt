use Rattle.std.proofs.Common.{◌∙◌}
use Rattle.matched_calls.proofs.SummaryLemmas.{passed_more}
use Rattle.matched_calls.proofs.summary.pass.Goals as goal

pub loop-j-preserved : goal.loop-j-preserved
loop-j-preserved c = record {
  rows = c.come_back-changed.ensures.rows ∙ c.loop-j.invariant.rows;
  passed = passed_more c.args.ground.now.nodes.now c.args.ground.now.kinds.now c.args.ground.now.plan.now c.args.kept.now c.loop-j.kept c.come_back-changed.new.kept c.loop-j.changed c.come_back-changed.result c.loop-j.j
      c.loop-j.invariant.passed c.come_back-changed.ensures.raises c.come_back-changed.ensures.tight;
}

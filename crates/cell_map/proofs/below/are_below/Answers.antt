use Rattle.cell_map.proofs.BelowLemmas.{next_entry, not_below}
use Rattle.cell_map.proofs.below.are_below.Goals as goal

pub loop-y-preserved : goal.loop-y-preserved
loop-y-preserved c =
    next_entry c.args.a.now c.loop-y.left.now c.passed-left.result.now c.args.ys.now c.loop-y.y-index c.y-item.result c.is_entry_below.result _ c.loop-y-test.true c.y-item.is
    c.passed-left.ensures.keeps c.passed-left.ensures.from (c.passed-left.ensures.rises c.loop-y.invariant.1) c.is_entry_below.ensures c.loop-y.invariant.2 c.loop-y.invariant.0 c.if-not-is_entry_below.false

pub returns-then-not-is_entry_below : goal.returns-then-not-is_entry_below
returns-then-not-is_entry_below c =
    not_below c.args.a.now c.loop-y.left.now c.passed-left.result.now c.args.ys.now c.loop-y.y-index c.y-item.result c.is_entry_below.result _ c.loop-y-test.true c.y-item.is
    c.passed-left.ensures.keeps c.passed-left.ensures.from (c.passed-left.ensures.rises c.loop-y.invariant.1) c.is_entry_below.ensures c.loop-y.invariant.2 c.loop-y.invariant.0 c.if-not-is_entry_below.true

use Rattle.std.proofs.Common.{sym, ◌∙◌}
use Rattle.abs_state.proofs.ViewLemmas.{link_later, link_nowhere}
use Rattle.abs_state.proofs.joins.widened_link.Goals as goal

pub loop-m-preserved : goal.loop-m-preserved
loop-m-preserved c = link_later c.args.l.now c.args.old.now c.loop-m.m-index c.m-item.result _ c.loop-m-test.true c.m-item.is (sym c.is_same_link.ensures ∙ c.if-is_same_link.false) c.loop-m.invariant

pub returns : goal.returns
returns c = link_nowhere c.args.l.now c.args.old.now c.loop-m.m-index _ c.loop-m-test.false c.loop-m.invariant

use Rattle.abs_state.proofs.ViewLemmas.{links_step, links_end}
use Rattle.abs_state.proofs.joins.widened_links.Goals as goal

pub loop-l-preserved : goal.loop-l-preserved
loop-l-preserved c =
    links_step c.args.old.now c.args.new.now c.loop-l.l-index c.l-item.result c.widened_link.result c.loop-l.out.items c.push.new.self.items _ c.loop-l-test.true c.l-item.is c.widened_link.ensures c.in_ok-push.ensures.items c.loop-l.invariant

pub returns : goal.returns
returns c = links_end c.args.old.now c.args.new.now c.loop-l.l-index c.loop-l.out.items _ c.loop-l-test.false c.loop-l.invariant

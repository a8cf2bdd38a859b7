use Rattle.access_facts.proofs.KeptLemmas.{list_step, list_end}
use Rattle.access_facts.proofs.kept.push_lists.Goals as goal

pub loop-list-preserved : goal.loop-list-preserved
loop-list-preserved c = list_step c.args.more.now c.loop-list.list-index c.list-item.result c.loop-list.lists.items c.push_list.new.lists.items _ c.loop-list-test.true c.list-item.is c.in_ok-push_list.ensures c.loop-list.invariant

pub returns : goal.returns
returns c = list_end c.args.more.now c.loop-list.list-index c.loop-list.lists.items _ c.loop-list-test.false c.loop-list.invariant

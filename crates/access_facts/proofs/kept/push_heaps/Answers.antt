use Rattle.access_facts.specs.Kept.{heap_list}
use Rattle.access_facts.proofs.KeptLemmas.{number_step, number_end}
use Rattle.access_facts.proofs.kept.push_heaps.Goals as goal

pub loop-key-preserved : goal.loop-key-preserved
loop-key-preserved c = number_step heap_list c.args.keys.now c.loop-key.key-index c.loop-key.lists.items c.push_heap.new.lists.items _ c.loop-key-test.true c.in_ok-push_heap.ensures c.loop-key.invariant

pub returns : goal.returns
returns c = number_end heap_list c.args.keys.now c.loop-key.key-index c.loop-key.lists.items _ c.loop-key-test.false c.loop-key.invariant

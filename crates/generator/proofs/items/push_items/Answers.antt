use Rattle.std.proofs.Common.{arith}
use Rattle.generator.proofs.ItemLemmas.{items_start, items_more, items_all}
use Rattle.generator.proofs.items.push_items.Goals as goal

pub loop-init : goal.loop-init
loop-init c = items_start c.args.count c.args.seed c.args.code.now.items

pub loop-preserved : goal.loop-preserved
loop-preserved c = items_more c.args.count c.loop.counter c.loop.word c.next_word-word.result c.loop.code.items c.push_item.new.code.items _ c.loop.invariant (omega arith) c.next_word-word.ensures c.in_ok-push_item.ensures

pub returns : goal.returns
returns c = items_all c.args.count c.loop.counter c.loop.word c.loop.code.items _ c.loop.invariant (omega arith)

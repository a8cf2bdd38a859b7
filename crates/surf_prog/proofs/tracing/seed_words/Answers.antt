use Rattle.std.proofs.Common.{arith}
use Rattle.surf_prog.proofs.TracingLaws.{words_start, words_more, words_all}
use Rattle.surf_prog.proofs.tracing.seed_words.Goals as goal

pub loop-init : goal.loop-init
loop-init c = words_start c.args.count c.args.seed c.new-words.result.items c.new-words.ensures.items

pub loop-preserved : goal.loop-preserved
loop-preserved c = words_more c.args.count c.loop.counter c.loop.word c.next_word-word.result c.loop.words.items _ _ c.loop.invariant (omega arith) c.next_word-word.ensures c.in_ok-push.ensures.items

pub returns : goal.returns
returns c = words_all c.args.count c.loop.counter c.loop.word c.loop.words.items _ c.loop.invariant (omega arith)

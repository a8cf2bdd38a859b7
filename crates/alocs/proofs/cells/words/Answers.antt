use Rattle.std.proofs.Common.{arith}
use Rattle.std.proofs.lemmas.Int.{ints}
use Rattle.alocs.proofs.ListLemmas.{words_push, words_all}
use Rattle.alocs.proofs.cells.words.Goals as goal

pub loop-preserved : goal.loop-preserved
loop-preserved c = record {
  near = omega (arith, ints);
  made = words_push c.loop.offsets.items c.push.new.self.items c.args.count c.loop.counter _ _ _ _ (omega arith) c.in_ok-push.ensures.items (omega (arith, ints)) (omega (arith, ints)) c.loop.invariant.made;
}

pub returns : goal.returns
returns c = words_all c.loop.offsets.items c.args.count c.loop.counter _ c.args.from _ (omega arith) (omega (arith, ints)) c.loop.invariant.made

use Rattle.abs_state.specs.Views.{seen}
use Rattle.transfer.proofs.ArgumentLemmas.{words_step, words_end}
use Rattle.transfer.proofs.externs.words_read.Goals as goal

pub loop-before-preserved : goal.loop-before-preserved
loop-before-preserved c =
    words_step (seen c.args.a.now) c.args.n c.loop-before.before c.loop-before.out.items c.in_ok-word.word.items _ _ c.loop-before-test.true c.in_ok-word.ensures c.in_ok-out-2.ensures c.loop-before.invariant

pub returns : goal.returns
returns c = words_end (seen c.args.a.now) c.args.n c.loop-before.before c.loop-before.out.items _ c.loop-before-test.false c.loop-before.invariant

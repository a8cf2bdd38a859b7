use Rattle.access_facts.proofs.KeptLemmas.{number_step, number_end}
use Rattle.access_facts.proofs.kinds.push_pairs.Goals as goal

pub loop-number-preserved : goal.loop-number-preserved
loop-number-preserved c =
    number_step (λ n. (c.args.from, n)) c.args.to.now c.loop-number.number-index c.loop-number.pairs.items c.push.new.self.items _ c.loop-number-test.true c.in_ok-push.ensures.items c.loop-number.invariant

pub returns : goal.returns
returns c = number_end (λ n. (c.args.from, n)) c.args.to.now c.loop-number.number-index c.loop-number.pairs.items _ c.loop-number-test.false c.loop-number.invariant

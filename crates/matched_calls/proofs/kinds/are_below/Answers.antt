use Rattle.std.proofs.Common.{refl, arith}
use Rattle.matched_calls.proofs.ExtendLemmas.{below_more}
use Rattle.matched_calls.proofs.kinds.are_below.Goals as goal

pub loop-pair-preserved : goal.loop-pair-preserved
loop-pair-preserved c = below_more c.args.pairs.now c.args.count c.loop-pair.pair-index c.loop-pair-test.true (c.is_below.ensures.0 c.if-not-is_below.false) c.loop-pair.invariant

pub returns-then-not-is_below : goal.returns-then-not-is_below
returns-then-not-is_below c = (
  λ never. absurd (cc),
  λ all. let never = c.if-not-is_below.ensures.1 (all c.loop-pair.pair-index (0, 0) c.loop-pair-test.true) in absurd (cc),
)

pub returns : goal.returns
returns c = (λ _ k d within. c.loop-pair.invariant k d (omega (arith, within)), λ _. refl)

use Rattle.std.proofs.Common.{arith}
use Rattle.alocs.proofs.HalfLemmas.{one_further}
use Rattle.alocs.proofs.cells.are_by_region.Goals as goal

pub loop-place-preserved : goal.loop-place-preserved
loop-place-preserved c = record {
  some = omega arith;
  before = one_further c.args.lists.now c.loop-place.place _ _ c.is_before.result c.loop-place.invariant.before c.loop-place.invariant.some c.loop-place-test.true c.is_before.ensures c.if-not-is_before.false;
}

pub returns : goal.returns
returns c = λ told k d lt. c.loop-place.invariant.before k d (let e = c.loop-place-test.false in omega arith)

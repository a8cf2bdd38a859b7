use Rattle.std.proofs.Common.{ℕ, ◌+◌, subst, sym, arith}
use Rattle.asi_cuts.proofs.ListingLemmas.{Listed, listed_all, listed_next}
use Rattle.asi_cuts.proofs.lists.lists_of.Goals as goal

pub loop-listed-smaller : goal.loop-listed-smaller
loop-listed-smaller c =
    let l = listed_next c.args.cuts.now c.loop-listed.listed _ c.in_ok-offsets.offsets c.loop-listed.lists c.push.new.self c.requires c.loop-listed-test.true c.in_ok-offsets.ensures c.in_ok-push.ensures.ok c.loop-listed.invariant in
    let some = l.1 in
    omega arith

pub loop-listed-preserved : goal.loop-listed-preserved
loop-listed-preserved c =
    let l = listed_next c.args.cuts.now c.loop-listed.listed _ c.in_ok-offsets.offsets c.loop-listed.lists c.push.new.self c.requires c.loop-listed-test.true c.in_ok-offsets.ensures c.in_ok-push.ensures.ok c.loop-listed.invariant in
    subst (λ (n : ℕ). Listed c.args.cuts.now (c.loop-listed.listed + n) c.push.new.self) (sym c.len-listed.ensures) l.0

pub returns : goal.returns
returns c = listed_all c.args.cuts.now c.loop-listed.listed c.loop-listed.lists c.loop-listed-test.false c.loop-listed.invariant

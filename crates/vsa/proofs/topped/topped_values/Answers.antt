use Rattle.std.proofs.Common.{◌<◌, ◌≤◌, length, arith}
use Rattle.vsa.specs.Topped.{topped_value}
use Rattle.vsa.proofs.ToppedLemmas.{pairs_step, pairs_end}
use Rattle.vsa.proofs.topped.topped_values.Goals as goal

pub loop-i-preserved : goal.loop-i-preserved
loop-i-preserved c =
    let lt : c.loop-i.i < length c.args.old.now = omega (arith, c.requires, c.loop-i-test.true) in
    pairs_step topped_value c.args.old.now c.args.new.now c.loop-i.i c.index-old-i.result c.index-new-i.result c.in_ok-value.value c.loop-i.out.items _ _ lt c.loop-i-test.true c.index-old-i.is c.index-new-i.is c.in_ok-value.ensures c.in_ok-push.ensures.items c.loop-i.invariant

pub returns : goal.returns
returns c =
    let le : length c.args.old.now ≤ c.loop-i.i = omega (arith, c.requires, c.loop-i-test.false) in
    pairs_end topped_value c.args.old.now c.args.new.now c.loop-i.i c.loop-i.out.items _ le c.loop-i.invariant

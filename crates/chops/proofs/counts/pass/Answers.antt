use Rattle.std.proofs.Common.{get_or, refl, arith}
use Rattle.chops.proofs.CountLemmas.{passed_all, passed_more, passed_none}
use Rattle.chops.proofs.counts.pass.Goals as goal

pub loop-arrow-init : goal.loop-arrow-init
loop-arrow-init c = passed_none c.args.arrows.now c.args.counts.now

pub lower-changed-requires-clause-source : goal.lower-changed-requires-clause-source
lower-changed-requires-clause-source c =
    let many = c.loop-arrow.invariant.lowers.many in
    let ends = (c.requires c.loop-arrow.arrow-index (0, 0) c.loop-arrow-test.true).0 in
    omega (arith, many, ends)

pub lower-changed-requires-clause-target : goal.lower-changed-requires-clause-target
lower-changed-requires-clause-target c =
    let many = c.loop-arrow.invariant.lowers.many in
    let ends = (c.requires c.loop-arrow.arrow-index (0, 0) c.loop-arrow-test.true).1 in
    omega (arith, many, ends)

pub loop-arrow-preserved : goal.loop-arrow-preserved
loop-arrow-preserved c =
    passed_more c.args.arrows.now c.args.counts.now c.loop-arrow.counts c.lower-changed.new.counts (get_or c.args.arrows.now c.loop-arrow.arrow-index (0, 0)).0 (get_or c.args.arrows.now c.loop-arrow.arrow-index (0, 0)).1 c.loop-arrow.arrow-index c.loop-arrow.changed c.lower-changed.result
    c.loop-arrow-test.true refl c.requires c.lower-changed.ensures.stays c.lower-changed.ensures.lowers c.loop-arrow.invariant

pub returns-clause-lowers : goal.returns-clause-lowers
returns-clause-lowers c = c.loop-arrow.invariant.lowers

pub returns-clause-short : goal.returns-clause-short
returns-clause-short c = passed_all c.args.arrows.now c.args.counts.now c.loop-arrow.counts c.loop-arrow.changed c.loop-arrow.arrow-index (omega arith) c.loop-arrow.invariant

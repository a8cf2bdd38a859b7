use Rattle.vset.specs.Operations.{gathered}
use Rattle.vset.proofs.GatherLemmas.{row, row_step, row_none, row_all}
use Rattle.vset.proofs.sums.gather_row.Goals as goal

pub returns-in-None : goal.returns-in-None
returns-in-None c =
    row_none c.args.pairing c.args.x.now c.args.ys.now c.loop-y.y-index c.y-item.result c.loop-y.out.items (gathered c.args.into.items (row c.args.pairing c.args.x.now c.args.ys.now)) c.loop-y-test.true c.y-item.is c.in-None.ensures c.loop-y.invariant

pub loop-y-preserved : goal.loop-y-preserved
loop-y-preserved c =
    row_step c.args.pairing c.args.x.now c.args.ys.now c.loop-y.y-index c.y-item.result c.in-Some.p c.as_slice.result.now c.loop-y.out.items c.in_ok-out-in-Some.out.items (gathered c.args.into.items (row c.args.pairing c.args.x.now c.args.ys.now)) c.loop-y-test.true c.y-item.is c.in-Some.ensures c.as_slice.ensures.value c.in_ok-out-in-Some.ensures c.loop-y.invariant

pub returns : goal.returns
returns c =
    row_all c.args.pairing c.args.x.now c.args.ys.now c.loop-y.y-index c.loop-y.out.items (gathered c.args.into.items (row c.args.pairing c.args.x.now c.args.ys.now)) c.loop-y-test.false c.loop-y.invariant

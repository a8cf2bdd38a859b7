use Rattle.std.proofs.Common.{[], Some, None, sym, ◌∙◌, ap}
use Rattle.vset.specs.Forms.{listed}
use Rattle.vset.specs.Operations.{gathered, pairs}
use Rattle.vset.proofs.GatherLemmas.{rows_step, rows_all}
use Rattle.vset.proofs.sums.gather.Goals as goal

pub returns-in-None : goal.returns-in-None
returns-in-None c =
    rows_step c.args.pairing c.args.xs.now c.args.ys.now c.loop-x.x-index c.x-item.result c.loop-x.out.items None (gathered [] (pairs c.args.pairing c.args.xs.now c.args.ys.now)) c.loop-x-test.true c.x-item.is
    (ap listed (sym c.in-None.is) ∙ c.in_ok-gather_row.ensures) c.loop-x.invariant

pub loop-x-preserved : goal.loop-x-preserved
loop-x-preserved c =
    rows_step c.args.pairing c.args.xs.now c.args.ys.now c.loop-x.x-index c.x-item.result c.loop-x.out.items (Some c.in-Some.parts.items) (gathered [] (pairs c.args.pairing c.args.xs.now c.args.ys.now)) c.loop-x-test.true c.x-item.is
    (ap listed (sym c.in-Some.is) ∙ c.in_ok-gather_row.ensures) c.loop-x.invariant

pub returns : goal.returns
returns c = rows_all c.args.pairing c.args.xs.now c.args.ys.now c.loop-x.x-index c.loop-x.out.items (gathered [] (pairs c.args.pairing c.args.xs.now c.args.ys.now)) c.loop-x-test.false c.loop-x.invariant

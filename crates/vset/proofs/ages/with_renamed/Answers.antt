use Rattle.vset.specs.Operations.{with_renamed}
use Rattle.vset.proofs.OffsetLemmas.{renamed_step, renamed_all}
use Rattle.vset.proofs.ages.with_renamed.Goals as goal

pub loop-p-preserved : goal.loop-p-preserved
loop-p-preserved c =
    renamed_step c.args.from.now c.args.to.now c.args.ps.now (with_renamed c.args.from.now c.args.to.now c.args.ps.now c.args.into.items) c.loop-p.p-index c.p-item.result c.loop-p.out.items c.in_ok-out.out.items c.loop-p-test.true c.p-item.is c.in_ok-out.ensures c.loop-p.invariant

pub returns : goal.returns
returns c =
    renamed_all c.args.from.now c.args.to.now c.args.ps.now c.loop-p.p-index c.loop-p.out.items (with_renamed c.args.from.now c.args.to.now c.args.ps.now c.args.into.items) c.loop-p-test.false c.loop-p.invariant

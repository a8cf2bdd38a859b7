use Rattle.vset.proofs.PartLemmas.{with_step, with_all}
use Rattle.vset.specs.Operations.{with_parts}
use Rattle.vset.proofs.part.with_parts.Goals as goal

pub loop-p-preserved : goal.loop-p-preserved
loop-p-preserved c =
    with_step c.args.both c.args.ps.now (with_parts c.args.both c.args.ps.now c.args.into.now) c.loop-p.p-index c.p-item.result c.as_slice.result.now c.loop-p.out.items c.in_ok-out-2.out.items c.loop-p-test.true c.p-item.is c.as_slice.ensures.value c.in_ok-out-2.ensures c.loop-p.invariant

pub returns : goal.returns
returns c = with_all c.args.both c.args.ps.now c.loop-p.p-index c.loop-p.out.items (with_parts c.args.both c.args.ps.now c.args.into.now) c.loop-p-test.false c.loop-p.invariant

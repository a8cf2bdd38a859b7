use Rattle.std.proofs.Common.{arith}
use Rattle.sweeps.proofs.CodeLemmas.{aim_rising, aim_more}
use Rattle.sweeps.proofs.growing.aim.Goals as goal

pub aim_list-arrivals-requires : goal.aim_list-arrivals-requires
aim_list-arrivals-requires g c =
    aim_rising (g.D.Domain.meaning c.args.domain.now) c.args.kept.now.items c.loop-at.kept.items c.as_slice.result.now c.loop-at.at c.index_mut.result.now c.replace-list.new.dest c.requires c.loop-at.invariant c.index_mut.ensures.value c.as_slice.ensures.value

pub loop-at-preserved : goal.loop-at-preserved
loop-at-preserved g c =
    aim_more (g.D.Domain.meaning c.args.domain.now) c.args.kept.now.items c.loop-at.kept.items c.as_slice.result.now c.loop-at.at c.index_mut.result.now c.index_mut-in-loop-at.result.now c.replace-list.new.dest c.replace-list.result c.aim_list-arrivals.result (omega (arith, c.loop-at-test.true, c.len-at-end.ensures, c.args.kept.now.ok.0)) c.loop-at.invariant
    c.index_mut.ensures.value c.as_slice.ensures.value c.index_mut-in-loop-at.ensures.value c.replace-list.ensures.value c.aim_list-arrivals.ensures

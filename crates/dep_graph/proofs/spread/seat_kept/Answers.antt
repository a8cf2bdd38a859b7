use Rattle.std.proofs.Common.{arith}
use Rattle.dep_graph.proofs.SpreadLemmas.{keeping-more}
use Rattle.dep_graph.proofs.spread.seat_kept.Goals as goal

pub loop-m-preserved : goal.loop-m-preserved
loop-m-preserved c =
    keeping-more c.args.nodes.now c.args.place c.loop-m.kept c.loop-m.m c.index-nodes-m.result c.all_unless.result c.must_define.result
    c.loop-m-test.true (omega arith) c.index-nodes-m.is c.must_define.ensures c.all_unless.ensures c.loop-m.invariant

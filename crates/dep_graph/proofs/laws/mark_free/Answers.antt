use Rattle.std.proofs.Common.{arith}
use Rattle.dep_graph.proofs.WalkedLemmas.{free-more}
use Rattle.dep_graph.proofs.laws.mark_free.Goals as goal

pub loop-m-preserved : goal.loop-m-preserved
loop-m-preserved c =
    free-more c.args.nodes.now c.args.place c.loop-m.free c.loop-m.m c.index-nodes-m.result c.must_define.result c.loop-m-test.true (omega arith) c.index-nodes-m.is c.must_define.ensures c.loop-m.invariant

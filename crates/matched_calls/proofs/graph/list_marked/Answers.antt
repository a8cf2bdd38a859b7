use Rattle.std.proofs.Common.{get_or, refl, arith}
use Rattle.matched_calls.proofs.GraphLemmas.{marked_all, marked_more}
use Rattle.matched_calls.proofs.graph.list_marked.Goals as goal

pub loop-pair-preserved : goal.loop-pair-preserved
loop-pair-preserved c =
    marked_more c.args.pairs.now c.args.marks.now c.loop-pair.pair-index (get_or c.args.pairs.now c.loop-pair.pair-index (0, 0)).0 (get_or c.args.pairs.now c.loop-pair.pair-index (0, 0)).1 c.is_marked-is_listed.result c.loop-pair.list.items c.push_if.new.list.items
    refl c.is_marked-is_listed.ensures c.loop-pair.invariant c.in_ok-push_if.ensures

pub returns : goal.returns
returns c = marked_all c.args.pairs.now c.loop-pair.list.items c.args.marks.now c.loop-pair.pair-index (omega arith) c.loop-pair.invariant

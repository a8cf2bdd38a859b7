use Rattle.std.proofs.Common.{refl, get_or, arith}
use Rattle.matched_calls.proofs.ExtendLemmas.{taken_all, taken_more}
use Rattle.matched_calls.proofs.extend.add_taken.Goals as goal

pub loop-to-preserved : goal.loop-to-preserved
loop-to-preserved c =
    taken_more c.args.kinds.now c.args.phase c.args.count c.args.node c.loop-to.to-index (get_or c.args.next.now c.loop-to.to-index 0) c.args.next.now c.is_kept.result c.args.list.now.items c.loop-to.list.items c.push_if.new.list.items
    refl c.is_kept.ensures c.loop-to.invariant c.in_ok-push_if.ensures

pub returns : goal.returns
returns c = taken_all c.args.kinds.now c.args.phase c.args.count c.args.node c.loop-to.to-index c.args.next.now c.args.list.now.items c.loop-to.list.items (omega arith) c.loop-to.invariant

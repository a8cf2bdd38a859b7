use Rattle.std.proofs.Common.{refl, get_or, arith}
use Rattle.chops.proofs.PairSetLemmas.{shown_all, shown_more}
use Rattle.chops.proofs.control.add_bits.Goals as goal

pub loop-k-preserved : goal.loop-k-preserved
loop-k-preserved c =
    shown_more c.args.branch c.args.word c.args.targets.now c.loop-k.k (get_or c.args.targets.now c.loop-k.k 0) c.has_bit.result c.args.pairs.now.items c.loop-k.pairs.items c.push_if.new.list.items
    refl c.has_bit.ensures c.loop-k.invariant c.in_ok-push_if.ensures

pub returns : goal.returns
returns c = shown_all c.args.branch c.args.word c.args.targets.now c.loop-k.k c.args.pairs.now.items c.loop-k.pairs.items (omega arith) c.loop-k.invariant

use Rattle.std.proofs.Common.{arith}
use Rattle.chops.proofs.PairSetLemmas.{splits_all, splits_more}
use Rattle.chops.proofs.control.add_splits.Goals as goal

pub loop-branch-preserved : goal.loop-branch-preserved
loop-branch-preserved c =
    splits_more c.args.rows.now.nodes.now c.args.rows.now.reaching.now c.args.rows.now.escaping.now c.args.targets.now c.loop-branch.branch c.split-word.result c.args.pairs.now.items c.loop-branch.pairs.items c.add_bits.new.pairs.items
    c.split-word.ensures c.loop-branch.invariant c.in_ok-add_bits.ensures

pub returns : goal.returns
returns c =
    splits_all c.args.rows.now.nodes.now c.args.rows.now.reaching.now c.args.rows.now.escaping.now c.args.targets.now c.loop-branch.branch c.args.pairs.now.items c.loop-branch.pairs.items (omega arith) c.loop-branch.invariant

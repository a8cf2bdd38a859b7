use Rattle.std.proofs.Common.{arith}
use Rattle.chops.specs.Masks.{IsSplit}
use Rattle.chops.proofs.MaskLemmas.{first-all, first-more, first-none}
use Rattle.chops.proofs.masks.split_by.Goals as goal

pub loop-branch-init : goal.loop-branch-init
loop-branch-init c = first-none (IsSplit c.args.rows.now.nodes.now c.args.rows.now.reaching.now c.args.rows.now.escaping.now) c.args.branches.now

pub loop-branch-preserved : goal.loop-branch-preserved
loop-branch-preserved c = first-more (IsSplit c.args.rows.now.nodes.now c.args.rows.now.reaching.now c.args.rows.now.escaping.now) c.args.branches.now c.loop-branch.branch-index c.loop-branch.word c.split-word.result c.split-word.ensures c.loop-branch.invariant

pub returns : goal.returns
returns c = first-all (IsSplit c.args.rows.now.nodes.now c.args.rows.now.reaching.now c.args.rows.now.escaping.now) c.args.branches.now c.loop-branch.branch-index c.loop-branch.word (omega arith) c.loop-branch.invariant

use Rattle.std.proofs.Common.{arith}
use Rattle.chops.specs.Masks.{IsShared}
use Rattle.chops.proofs.MaskLemmas.{first-all, first-more, first-none}
use Rattle.chops.proofs.masks.shared_from.Goals as goal

pub loop-y-init : goal.loop-y-init
loop-y-init c = first-none (IsShared c.args.rows.now.nodes.now c.args.rows.now.reaching.now c.args.rows.now.escaping.now c.args.x) c.args.others.now

pub loop-y-preserved : goal.loop-y-preserved
loop-y-preserved c = first-more (IsShared c.args.rows.now.nodes.now c.args.rows.now.reaching.now c.args.rows.now.escaping.now c.args.x) c.args.others.now c.loop-y.y-index c.loop-y.word c.shared-word.result c.shared-word.ensures c.loop-y.invariant

pub returns : goal.returns
returns c = first-all (IsShared c.args.rows.now.nodes.now c.args.rows.now.reaching.now c.args.rows.now.escaping.now c.args.x) c.args.others.now c.loop-y.y-index c.loop-y.word (omega arith) c.loop-y.invariant

use Rattle.std.proofs.Common.{arith, refl, length, ◌≡◌}
use Rattle.std.specs.Prelude.{Contains}
use Rattle.flow_graph.proofs.WalkLemmas.{IsBelow, follows-more, follows-like, below-contains}
use Rattle.flow_graph.proofs.walks.follow.Goals as goal

pub loop-node-preserved : goal.loop-node-preserved
loop-node-preserved c =
    follows-more c.args.targets.now c.loop-node.node-index _ c.args.marks.now c.args.work.now.items c.loop-node.marks c.loop-node.work.items c.mark.new.marks c.mark.new.work.items refl c.loop-node.auto.marks c.loop-node.invariant c.in_ok-mark.ensures

pub returns : goal.returns
returns c =
    let all : c.loop-node.node-index ≡ length c.args.targets.now = omega arith in
    follows-like (IsBelow c.args.targets.now c.loop-node.node-index) (Contains c.args.targets.now) c.args.marks.now c.args.work.now.items c.loop-node.marks c.loop-node.work.items
    (λ n. below-contains c.args.targets.now c.loop-node.node-index n all) c.loop-node.invariant

use Rattle.std.proofs.Common.{arith, length, ◌≡◌}
use Rattle.std.proofs.lemmas.Grind.{common_steps}
use Rattle.flow_graph.proofs.WalkLemmas.{walking-begins, walking-skips, walking-follows, walking-ends}
use Rattle.flow_graph.proofs.walks.search.Goals as goal

pub loop-node-init : goal.loop-node-init
loop-node-init c =
    walking-begins c.args.nodes.now c.args.kept.now c.args.from c.next_of.result.now c.args.marks.now c.new-work.result.items c.follow.new.marks c.follow.new.work.items
    c.next_of.ensures c.requires c.new-work.ensures.items c.follow.auto.marks c.in_ok-follow.ensures

pub loop-node-preserved-in-Continue-branch-2 : goal.loop-node-preserved-in-Continue-branch-2
loop-node-preserved-in-Continue-branch-2 c =
    walking-follows c.args.nodes.now c.args.kept.now c.args.from c.in-Some.node c.next_of-then-is_on.result.now c.loop-node.marks c.loop-node.work.items c.pop.new.self.items c.follow-then-is_on.new.marks c.follow-then-is_on.new.work.items
    c.in-Some.ensures.items (c.is_on.ensures.0 c.if-is_on.true) c.next_of-then-is_on.ensures c.follow-then-is_on.auto.marks c.loop-node.invariant c.in_ok-follow-2.ensures

pub loop-node-preserved : goal.loop-node-preserved
loop-node-preserved c =
    walking-skips c.args.nodes.now c.args.kept.now c.args.from c.in-Some.node c.loop-node.marks c.loop-node.work.items c.pop.new.self.items
    c.in-Some.ensures.items (λ on. let is = c.is_on.ensures.1 on in absurd (cc)) c.loop-node.invariant

pub returns : goal.returns
returns c =
    let none : length c.loop-node.work.items ≡ 0 = grind (arith, common_steps) in
    walking-ends c.args.nodes.now c.args.kept.now c.args.from c.loop-node.marks c.loop-node.work.items none c.loop-node.invariant

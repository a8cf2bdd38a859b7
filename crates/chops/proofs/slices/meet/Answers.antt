use Rattle.std.proofs.Common.{◌≡◌, ◌∙◌, ◌<◌, ℕ, List, length, refl, sym, subst, ap, arith}
use Rattle.std.specs.Prelude.{All}
use Rattle.chops.proofs.ChopLemmas.{both_all, both_step}
use Rattle.chops.proofs.slices.meet.Goals as goal

pub loop-node-preserved : goal.loop-node-preserved
loop-node-preserved c = record {
  size = c.mark_if.ensures.size ∙ c.loop-node.invariant.size;
  nodes = both_step c.nodes-node-items.result.now c.args.first.now.nodes c.args.second.now.nodes c.loop-node.both.nodes c.mark_if.new.self.nodes c.loop-node.node-index c.loop-node.both.size c.has.result c.nodes-node-items.ensures.nodes c.loop-node-test.true
      (subst (λ (s : ℕ). All (λ n. n < s) c.args.first.now.nodes) (sym (c.loop-node.invariant.size ∙ c.clear.ensures.size)) c.requires.inside) c.has.ensures c.mark_if.ensures.adds c.loop-node.invariant.nodes;
}

pub returns-clause-nodes : goal.returns-clause-nodes
returns-clause-nodes c =
    let held = ap (λ (xs : List ℕ). length xs) c.nodes-node-items.ensures.nodes in
    let all : length c.args.first.now.nodes ≡ c.loop-node.node-index = omega arith in
    both_all c.args.first.now.nodes c.args.first.now.nodes c.args.second.now.nodes c.loop-node.both.nodes c.loop-node.node-index refl all c.loop-node.invariant.nodes

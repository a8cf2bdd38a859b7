use Rattle.std.proofs.Common.{arith, get_or, ◌+◌, ◌≡◌, length, refl, subst, sym}
use Rattle.std.specs.Prelude.{◌↔◌, bit_or}
use Rattle.flow_graph.specs.Rows.{IsBit}
use Rattle.flow_graph.proofs.RowLemmas.{SomeBelow, some-none, some-more, some-all}
use Rattle.flow_graph.proofs.rows.met.Goals as goal

pub loop-node-init : goal.loop-node-init
loop-node-init c = λ k. some-none c.args.rows.now c.args.nodes.now k

pub loop-node-preserved : goal.loop-node-preserved
loop-node-preserved c = λ k.
    let more = some-more c.args.rows.now c.args.nodes.now c.loop-node.word c.loop-node.node-index (get_or c.args.nodes.now c.loop-node.node-index 0) k refl (c.loop-node.invariant k) in
    subst (λ w. IsBit (bit_or c.loop-node.word w) k ↔ SomeBelow c.args.rows.now c.args.nodes.now (c.loop-node.node-index + 1) k) (sym c.word_at-word.ensures) more

pub returns : goal.returns
returns c = λ k.
    let all : c.loop-node.node-index ≡ length c.args.nodes.now = omega arith in
    let last = some-all c.args.rows.now c.args.nodes.now c.loop-node.node-index k all in
    let before = c.loop-node.invariant k in
    (λ is. last.0 (before.0 is), λ some. before.1 (last.1 some))

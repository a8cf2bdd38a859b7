use Rattle.std.proofs.Common.{◌≡◌, ◌∙◌, ◌<◌, ℕ, ap, arith, get_or, length, length-set, refl, subst, take}
use Rattle.std.specs.Prelude.{◌↔◌, Contains}
use Rattle.flow_graph.specs.FlowGraph.{IsAt}
use Rattle.flow_graph.specs.declared.graph.FlowNode.{FlowNode}
use Rattle.slicer.proofs.ListLemmas.{address-more, address-all}
use Rattle.slicer.proofs.list.list_addresses.Goals as goal

pub loop-place-preserved : goal.loop-place-preserved
loop-place-preserved c =
    let here = get_or c.args.nodes.now (get_or c.args.met.now c.loop-place.place 0) c.index-nodes-node.result in
    let len = c.loop-place.invariant.len in
    let room : c.loop-place.place < length c.loop-place.list = omega arith in
    record {
      len = length-set c.loop-place.list c.loop-place.place here.at ∙ c.loop-place.invariant.len;
      listed = λ a. address-more c.args.nodes.now c.args.met.now c.loop-place.list c.loop-place.place (get_or c.args.met.now c.loop-place.place 0) a here room refl
          (c.requires.inside c.loop-place.place 0 c.loop-place-test.true)
          (ap (λ (node : FlowNode). get_or c.args.nodes.now (get_or c.args.met.now c.loop-place.place 0) node) c.index-nodes-node.is)
          (c.loop-place.invariant.listed a);
    }

pub returns : goal.returns
returns c = λ a.
    let all : c.loop-place.place ≡ length c.args.met.now = omega arith in
    let by = c.loop-place.invariant.listed a in
    let whole = address-all c.args.nodes.now c.args.met.now c.loop-place.place a all in
    subst (λ i. Contains (take i c.loop-place.list) a ↔ ((n : ℕ) × Contains c.args.met.now n × IsAt c.args.nodes.now a n)) all (λ has. whole.0 (by.0 has), λ some. by.1 (whole.1 some))

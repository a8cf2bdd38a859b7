use Rattle.std.proofs.Common.{ℕ, List, length, refl, sym, subst, ap, arith}
use Rattle.flow_graph.specs.declared.graph.FlowNode.{FlowNode}
use Rattle.slicer.specs.Slicer.{ListedEdge}
use Rattle.chops.specs.Following.{AreNumbers}
use Rattle.chops.proofs.WalkerLemmas.{first_all, forward_met}
use Rattle.chops.proofs.walker.Walker.forward.Goals as goal

pub begin-requires-clause-numbers : goal.begin-requires-clause-numbers
begin-requires-clause-numbers c =
    let many = ap (λ (ns : List FlowNode). length ns) c.as_slice-nodes.ensures in let made = c.requires.made in let view = c.self.view_is in let small = c.self.invariant.2 in omega (arith, many, made, view, small)

pub follow_on-requires-clause-all : goal.follow_on-requires-clause-all
follow_on-requires-clause-all c = λ n lt.
    let many = ap (λ (ns : List FlowNode). length ns) c.as_slice-nodes.ensures in
    let held = ap (λ (xs : List ℕ). length xs) c.deref.ensures.value in
    let made = c.requires.made in
    let view = c.self.view_is in
    first_all c.deref.result.now _ (length c.as_slice-nodes.result.now) refl (omega (arith, many, held, made, view)) (subst (λ (xs : List ℕ). AreNumbers xs) (sym c.deref.ensures.value) c.self.invariant.1) n (omega (arith, many, lt))

pub returns-clause-nodes : goal.returns-clause-nodes
returns-clause-nodes c =
    forward_met (ListedEdge c.args.graph.now.edges.ordinary c.args.graph.now.edges.sp c.args.skip_sp) c.as_slice-nodes.result.now c.args.graph.now.flow.nodes c.args.at c.begin.new.queue.nodes c.follow_on.new.queue.nodes c.as_slice-nodes.ensures c.begin.ensures.nodes c.follow_on.ensures.grows c.follow_on.ensures.closed

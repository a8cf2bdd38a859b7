-- Slices along matched walks lie within slices.
use Rattle.std.proofs.Common.{◌≡◌, ◌⊎◌, inl, inr, ⊎_elim, ℕ, ◌<◌, Bool, List, [], ◌∷◌, refl, subst, arith}
use Rattle.std.specs.Prelude.{Contains}
use Rattle.flow_graph.specs.declared.graph.FlowNode.{FlowNode}
use Rattle.flow_graph.specs.FlowGraph.{IsAt, Walk}
use Rattle.flow_graph.specs.Marked.Marked.{seed}
use Rattle.dep_graph.specs.DepGraph.{DataEdge}
use Rattle.dep_graph.specs.Edges.{HasEdges}
use Rattle.slicer.specs.Slicer.{Arrow, InSlice, ListedEdge}
use Rattle.slicer.proofs.GrowLemmas.{marked-then}
use Rattle.matched_calls.specs.declared.kinds.StepKinds.{StepKinds}
use Rattle.matched_calls.specs.Matched.{MatchedWalk, MatchedEdge}
use Rattle.matched_calls.specs.Slices.{HasMatches, InSliceOver}

walk_of : (g : List FlowNode) (kinds : StepKinds) (m : ℕ) (pending inner : List ℕ) (n : ℕ) (left : List ℕ) → MatchedWalk g kinds m pending inner n left → Walk g m inner n
walk_of g kinds m pending [] n left walk = walk.0
walk_of g kinds m pending (i ∷ inner) n left walk = (walk.1, walk_of g kinds i walk.0 inner n left walk.3)

pub edge_of : (g : List FlowNode) (kinds : StepKinds) (place m n : ℕ) → MatchedEdge g kinds place m n → DataEdge g place m n
edge_of g kinds place m n e = record {
  defines = e.defines;
  uses = e.uses;
  inner = e.matches.0;
  walk = walk_of g kinds m [] e.matches.0 n e.matches.1 e.matches.2;
  kept = e.matches.3;
}

none_in : (pairs : List (ℕ × ℕ)) (p : ℕ × ℕ) → pairs ≡ [] → ¬ Contains pairs p
none_in pairs p none among = let empty : Contains [] p = subst (λ (xs : List (ℕ × ℕ)). Contains xs p) none among in let lt : empty.0 < 0 = empty.1 in omega (arith, lt)

-- where no step is a call or a return each walk is matched
plain_walk : (g : List FlowNode) (kinds : StepKinds) (m : ℕ) (inner : List ℕ) (n : ℕ) → kinds.calls ≡ [] → kinds.returns ≡ [] → Walk g m inner n → MatchedWalk g kinds m [] inner n []
plain_walk g kinds m [] n calls returns walk = (walk, inr (inr ((none_in kinds.calls (m, n) calls, none_in kinds.returns (m, n) returns), refl)))
plain_walk g kinds m (i ∷ inner) n calls returns walk =
    ([], walk.0, inr (inr ((none_in kinds.calls (m, i) calls, none_in kinds.returns (m, i) returns), refl)), plain_walk g kinds i inner n calls returns walk.1)

pub plain_edge : (g : List FlowNode) (kinds : StepKinds) (place m n : ℕ) → kinds.calls ≡ [] → kinds.returns ≡ [] → DataEdge g place m n → MatchedEdge g kinds place m n
plain_edge g kinds place m n calls returns e = record { defines = e.defines; uses = e.uses; matches = (e.inner, [], plain_walk g kinds m e.inner n calls returns e.walk, e.kept) }

pub slice_within : (g : List FlowNode) (kinds : StepKinds) (ordinary sp matched matched_sp control : List (ℕ × ℕ)) (skip_sp : Bool) (at n : ℕ) → HasEdges g ordinary sp → HasMatches g kinds matched matched_sp control
    → InSliceOver (ListedEdge matched matched_sp skip_sp) (λ b n. Contains control (b, n)) g at n → InSlice (ListedEdge ordinary sp skip_sp) g at n
slice_within g kinds ordinary sp matched matched_sp control skip_sp at n edges matches sliced =
    marked-then (IsAt g at) (IsAt g at) (λ later earlier. ListedEdge matched matched_sp skip_sp earlier later ⊎ Contains control (earlier, later)) (λ later earlier. Arrow (ListedEdge ordinary sp skip_sp) g earlier later)
    (λ m stands. seed stands)
    (λ later earlier goes.
    ⊎_elim
    (λ edge. inl (⊎_elim
    (λ o. let e = (matches.ordinary_edges.listed earlier later).0 o in inl ((edges.ordinary_edges.listed earlier later).1 (e.0, e.1, edge_of g kinds e.0 earlier later e.2)))
    (λ s. inr (s.0, (edges.sp_edges.listed earlier later).1 (edge_of g kinds 4 earlier later ((matches.sp_edges.listed earlier later).0 s.1)))) edge))
    (λ c. inr ((matches.controls earlier later).0 c).controls) goes)
    sliced

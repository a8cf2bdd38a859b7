-- What a search that has followed all arrows has met is the slice, and which edges that slice is over.
use Rattle.std.proofs.Common.{◌≡◌, ◌≢◌, inl, inr, ⊎_elim, ℕ, ◌<◌, Bool, List, [], ◌∷◌, length, get_or, refl, subst, arith}
use Rattle.std.specs.Prelude.{◌↔◌, Contains}
use Rattle.std.specs.List.Sorted.{IsStrictlyIncreasing}
use Rattle.std.proofs.lemmas.Bool.{cases_eq}
use Rattle.std.proofs.lemmas.List.Elements.{Contains-get_or}
use Rattle.flow_graph.specs.declared.graph.FlowNode.{FlowNode}
use Rattle.flow_graph.specs.FlowGraph.{IsAt, esp_place}
use Rattle.flow_graph.specs.Marked.Marked.{seed}
use Rattle.flow_graph.proofs.GraphLaws.{Has-within}
use Rattle.flow_graph.proofs.MarkedLaws.{marked_all}
use Rattle.dep_graph.specs.DepGraph.{DataEdge}
use Rattle.dep_graph.specs.Edges.{HasEdges, ListsPairs}
use Rattle.slicer.specs.Slicer.{FlowEdge, ListedEdge, Arrow, InSlice, IsSlice, AreNodes, HasNodes}
use Rattle.slicer.specs.Search.{Grows, Follows}
use Rattle.slicer.proofs.GrowLemmas.{marked-then, grows-has}

pub slice-met : (Edge : ℕ → ℕ → Type 0) (g : List FlowNode) (at : ℕ) (first nodes : List ℕ) → ((n : ℕ) → Contains first n ↔ IsAt g at n) → Grows (λ n m. Arrow Edge g m n) first nodes → Follows (λ n m. Arrow Edge g m n) nodes nodes → (n : ℕ) → Contains nodes n ↔ InSlice Edge g at n
slice-met Edge g at first nodes begins grows closed n = (
  λ has. marked-then (Contains first) (IsAt g at) (λ later earlier. Arrow Edge g earlier later) (λ later earlier. Arrow Edge g earlier later) (λ m in_first. seed ((begins m).0 in_first)) (λ a b goes. goes) (grows.reached n has),
  λ sliced. marked_all (IsAt g at) (λ later earlier. Arrow Edge g earlier later) (Contains nodes)
      (λ m stands. grows-has (λ later earlier. Arrow Edge g earlier later) first nodes m grows ((begins m).1 stands))
      (λ a b arrow has. closed a b arrow has) sliced,
)

pub slice-listed : (Edge : ℕ → ℕ → Type 0) (g : List FlowNode) (at : ℕ) (nodes addresses : List ℕ) → ((n : ℕ) → Contains nodes n ↔ InSlice Edge g at n) → IsStrictlyIncreasing addresses → ((a : ℕ) → Contains addresses a ↔ ((n : ℕ) × Contains nodes n × IsAt g a n)) → IsSlice Edge g at addresses
slice-listed Edge g at nodes addresses met rising listed = record {
  rising = rising;
  listed = λ a. (
    λ has. let some = (listed a).0 has in (some.0, some.2, (met some.0).0 some.1),
    λ sliced. (listed a).1 (sliced.0, (met sliced.0).1 sliced.2, sliced.1),
  );
}

-- the same of lists that are known by other names
pub slice-made : (Edge : ℕ → ℕ → Type 0) (g nodes : List FlowNode) (at : ℕ) (first met listed_of addresses : List ℕ) → nodes ≡ g → listed_of ≡ met → ((n : ℕ) → Contains first n ↔ IsAt nodes at n) → Grows (λ n m. Arrow Edge g m n) first met → Follows (λ n m. Arrow Edge g m n) met met → IsStrictlyIncreasing addresses → ((a : ℕ) → Contains addresses a ↔ ((n : ℕ) × Contains listed_of n × IsAt nodes a n)) → IsSlice Edge g at addresses
slice-made Edge g nodes at first met listed_of addresses same is begins grows closed rising listed =
    slice-listed Edge g at met addresses
    (slice-met Edge g at first met (λ n. subst (λ (ns : List FlowNode). Contains first n ↔ IsAt ns at n) same (begins n)) grows closed)
    rising
    (λ a. subst (λ (ns : List FlowNode). Contains addresses a ↔ ((n : ℕ) × Contains met n × IsAt ns a n)) same
    (subst (λ (xs : List ℕ). Contains addresses a ↔ ((n : ℕ) × Contains xs n × IsAt nodes a n)) is (listed a)))

-- a slice is empty where no node stands at its criterion, and not empty where one does
pub slice-empty : (Edge : ℕ → ℕ → Type 0) (g : List FlowNode) (at : ℕ) (addresses : List ℕ) → IsSlice Edge g at addresses → ((n : ℕ) → ¬ IsAt g at n) → length addresses ≡ 0
slice-empty Edge g at [] slice absent = refl
slice-empty Edge g at (a ∷ addresses) slice absent =
    let sliced = (slice.listed a).0 (0, omega arith, refl) in
    absurd (marked_all (IsAt g at) (λ later earlier. Arrow Edge g earlier later) (λ _. ⊥) (λ n stands. absent n stands) (λ m n arrow never. never) sliced.2)

pub slice-present : (Edge : ℕ → ℕ → Type 0) (g : List FlowNode) (at n : ℕ) (addresses : List ℕ) → IsSlice Edge g at addresses → length addresses ≡ 0 → ¬ IsAt g at n
slice-present Edge g at n addresses slice none stands =
    let has = (slice.listed at).1 (n, stands, seed stands) in
    let within : has.0 < length addresses = has.1 in
    absurd (omega (arith, within, none))

-- ---- over which edges

slice-over : (Edge Edge' : ℕ → ℕ → Type 0) (g : List FlowNode) (at n : ℕ) → ((m o : ℕ) → Edge m o → Edge' m o) → InSlice Edge g at n → InSlice Edge' g at n
slice-over Edge Edge' g at n like sliced =
    marked-then (IsAt g at) (IsAt g at) (λ later earlier. Arrow Edge g earlier later) (λ later earlier. Arrow Edge' g earlier later) (λ m stands. seed stands)
    (λ later earlier arrow. ⊎_elim (λ edge. inl (like earlier later edge)) (λ controls. inr controls) arrow) sliced

slice-like : (Edge Edge' : ℕ → ℕ → Type 0) (g : List FlowNode) (at : ℕ) (addresses : List ℕ) → ((m n : ℕ) → Edge m n ↔ Edge' m n) → IsSlice Edge g at addresses → IsSlice Edge' g at addresses
slice-like Edge Edge' g at addresses like slice = record {
  rising = slice.rising;
  listed = λ a. (
    λ has. let sliced = (slice.listed a).0 has in (sliced.0, sliced.1, slice-over Edge Edge' g at sliced.0 (λ m o edge. (like m o).0 edge) sliced.2),
    λ sliced. (slice.listed a).1 (sliced.0, sliced.1, slice-over Edge' Edge g at sliced.0 (λ m o edge. (like m o).1 edge) sliced.2),
  );
}

edges-like : (g : List FlowNode) (ordinary sp : List (ℕ × ℕ)) (skip_sp : Bool) → HasEdges g ordinary sp → (m n : ℕ) → ListedEdge ordinary sp skip_sp m n ↔ FlowEdge g skip_sp m n
edges-like g ordinary sp skip_sp has m n = (
  λ listed. ⊎_elim (λ o. let edge = (has.ordinary_edges.listed m n).0 o in (edge.0, λ _. edge.1, edge.2))
      (λ s. (esp_place, λ skip. absurd (s.0 skip), (has.sp_edges.listed m n).0 s.1))
      listed,
  λ edge. ⊎_elim (λ same. inr (λ skip. edge.1 skip same, (has.sp_edges.listed m n).1 (subst (λ place. DataEdge g place m n) same edge.2)))
      (λ other. inl ((has.ordinary_edges.listed m n).1 (edge.0, other, edge.2)))
      (cases_eq edge.0 esp_place),
)

pub slice-of_edges : (g : List FlowNode) (ordinary sp : List (ℕ × ℕ)) (skip_sp : Bool) (at : ℕ) (addresses : List ℕ) → HasEdges g ordinary sp → IsSlice (ListedEdge ordinary sp skip_sp) g at addresses ↔ IsSlice (FlowEdge g skip_sp) g at addresses
slice-of_edges g ordinary sp skip_sp at addresses has =
    let like = edges-like g ordinary sp skip_sp has in (
      slice-like (ListedEdge ordinary sp skip_sp) (FlowEdge g skip_sp) g at addresses like,
      slice-like (FlowEdge g skip_sp) (ListedEdge ordinary sp skip_sp) g at addresses (λ m n. ((like m n).1, (like m n).0)),
    )

-- ---- edges go between nodes

edge-nodes : (g : List FlowNode) (place m n : ℕ) → DataEdge g place m n → (m < length g) × (n < length g)
edge-nodes g place m n edge = (Has-within g m (λ node. Contains node.may_def place) edge.defines, Has-within g n (λ node. Contains node.may_use place) edge.uses)

are-nodes : (g : List FlowNode) (P : ℕ → ℕ → Type 0) (pairs : List (ℕ × ℕ)) → ListsPairs P pairs → ((m n : ℕ) → P m n → (m < length g) × (n < length g)) → AreNodes g pairs
are-nodes g P pairs lists inside k d within =
    let pair = get_or pairs k d in
    inside (get_or pairs k d).0 (get_or pairs k d).1 ((lists.listed (get_or pairs k d).0 (get_or pairs k d).1).0 (Contains-get_or pairs k d within))

pub edges-nodes : (g : List FlowNode) (ordinary sp : List (ℕ × ℕ)) → HasEdges g ordinary sp → HasNodes g ordinary sp
edges-nodes g ordinary sp has = record {
  ordinary_edges = are-nodes g (λ m n. (place : ℕ) × (place ≢ esp_place) × DataEdge g place m n) ordinary has.ordinary_edges (λ m n edge. edge-nodes g edge.0 m n edge.2);
  sp_edges = are-nodes g (DataEdge g esp_place) sp has.sp_edges (λ m n edge. edge-nodes g esp_place m n edge);
}

-- Back over edges and control that are handed in.
use Rattle.std.proofs.Common.{◌≡◌, ◌⊎◌, inl, inr, ⊎_elim, ℕ, ◌<◌, ◌≤◌, Bool, List, length, sym, subst}
use Rattle.std.specs.Prelude.{◌↔◌, Contains}
use Rattle.flow_graph.specs.declared.graph.FlowNode.{FlowNode}
use Rattle.flow_graph.specs.FlowGraph.{IsAt}
use Rattle.flow_graph.specs.Marked.Marked.{seed}
use Rattle.flow_graph.proofs.MarkedLaws.{marked_all}
use Rattle.slicer.specs.Slicer.{AreNodes, ListedEdge}
use Rattle.slicer.specs.Search as search
use Rattle.slicer.specs.Search.{Follows, Grows}
use Rattle.slicer.proofs.GrowLemmas.{grows-has, grows-like, grows-longer, grows-same, grows-then, marked-then}
use Rattle.matched_calls.specs.Slices.{HasPairs, InSliceOver, IsBefore}

module _ (Edge : ℕ → ℕ → Type 0) (control : List (ℕ × ℕ)) where
  -- one pass
  pub passes : (old mid new : List ℕ) → Grows (λ n m. Edge m n) old mid → Grows (search.IsBefore control) mid new → Grows (IsBefore Edge control) old new
  passes old mid new edges pairs =
      grows-then (IsBefore Edge control) old mid new (grows-like (λ n m. Edge m n) (IsBefore Edge control) old mid (λ m n edge. inl edge) edges) (grows-like (search.IsBefore control) (IsBefore Edge control) mid new (λ m n before. inr before) pairs)

  pub passes_more : (first old mid new : List ℕ) → Grows (IsBefore Edge control) first old → Grows (λ n m. Edge m n) old mid → Grows (search.IsBefore control) mid new → Grows (IsBefore Edge control) first new
  passes_more first old mid new before edges pairs = grows-then (IsBefore Edge control) first old new before (passes old mid new edges pairs)

  pub passes_longer : (old mid new : List ℕ) → Grows (λ n m. Edge m n) old mid → Grows (search.IsBefore control) mid new → length old ≤ length new
  passes_longer old mid new edges pairs = grows-longer (IsBefore Edge control) old new (passes old mid new edges pairs)

  pub passes_end : (old mid new : List ℕ) → Grows (λ n m. Edge m n) old mid → Grows (search.IsBefore control) mid new → Follows (λ n m. Edge m n) old mid → Follows (search.IsBefore control) mid new → length new ≡ length old → Follows (IsBefore Edge control) new new
  passes_end old mid new edges pairs first second same n m goes has =
      let is = grows-same (IsBefore Edge control) old new (passes old mid new edges pairs) same in
      let was = subst (λ (xs : List ℕ). Contains xs n) is has in
      ⊎_elim
      (λ edge. grows-has (search.IsBefore control) mid new m pairs (first n m edge was))
      (λ before. second n m before (grows-has (λ a b. Edge b a) old mid n edges was)) goes

-- what is met is the slice
pub met_slice : (Edge : ℕ → ℕ → Type 0) (control : List (ℕ × ℕ)) (nodes g : List FlowNode) (at : ℕ) (first met : List ℕ) → nodes ≡ g → ((n : ℕ) → Contains first n ↔ IsAt nodes at n) → Grows (IsBefore Edge control) first met → Follows (IsBefore Edge control) met met
    → (n : ℕ) → Contains met n ↔ InSliceOver Edge (λ b m. Contains control (b, m)) g at n
met_slice Edge control nodes g at first met same begins grows closed n = (
  λ has. marked-then (Contains first) (IsAt g at) (IsBefore Edge control) (λ later earlier. Edge earlier later ⊎ Contains control (earlier, later)) (λ m in_first. seed (subst (λ (ns : List FlowNode). IsAt ns at m) same ((begins m).0 in_first))) (λ a b goes. goes) (grows.reached n has),
  λ found. marked_all (IsAt g at) (λ later earlier. Edge earlier later ⊎ Contains control (earlier, later)) (Contains met)
      (λ m stands. grows-has (IsBefore Edge control) first met m grows ((begins m).1 (subst (λ (ns : List FlowNode). IsAt ns at m) (sym same) stands)))
      (λ a b goes has. closed a b goes has) found,
)

-- a step goes to a node
pub goes_within : (g : List FlowNode) (ordinary sp control : List (ℕ × ℕ)) (skip_sp : Bool) → HasPairs g ordinary sp control → (n m : ℕ) → (ListedEdge ordinary sp skip_sp m n ⊎ Contains control (m, n)) → m < length g
goes_within g ordinary sp control skip_sp has n m goes =
    ⊎_elim (λ edge. ⊎_elim (λ o. first ordinary has.ordinary_edges o) (λ s. first sp has.sp_edges s.1) edge) (λ c. first control has.controls c) goes
  where
    first : (pairs : List (ℕ × ℕ)) → AreNodes g pairs → Contains pairs (m, n) → m < length g
    first pairs nodes among = subst (λ (p : ℕ × ℕ). p.0 < length g) among.2 (nodes among.0 (m, n) among.1).0

-- a step back
abbrev pub back_step : (ℕ → ℕ → Type 0) → List (ℕ × ℕ) → ℕ → ℕ → Type 0
back_step Edge control later earlier = Edge earlier later ⊎ Contains control (earlier, later)

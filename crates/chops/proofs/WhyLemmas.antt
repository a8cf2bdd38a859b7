-- From the list of arrows to the path and its hops.
use Rattle.std.proofs.Common.{◌≡◌, ◌⊎◌, inl, inr, ⊎_elim, ℕ, ◌<◌, Bool, List, [], length, reverse, sym, ap, subst, arith}
use Rattle.std.specs.Prelude.{◌↔◌, All, Contains}
use Rattle.std.proofs.lemmas.List.{reverse-reverse}
use Rattle.flow_graph.specs.declared.graph.FlowNode.{FlowNode}
use Rattle.flow_graph.specs.FlowGraph.{IsAt}
use Rattle.slicer.specs.Slicer.{Arrow, HasNodes, ListedEdge}
use Rattle.chops.specs.declared.hops.Hop.{Hop}
use Rattle.chops.specs.Following.{IsAfter}
use Rattle.chops.specs.Hops.{AreHops, IsPath}
use Rattle.chops.specs.Paths.{IsTrace, IsShortestTrace}
use Rattle.chops.proofs.PairSetLemmas.{arrow_from}
use Rattle.chops.proofs.TraceLemmas.{none_like, shortest_like, trace_inside}

pub held_inside : (nodes g : List FlowNode) (held arrows : List (ℕ × ℕ)) → nodes ≡ g → held ≡ arrows → All (λ a. (a.0 < length g) × (a.1 < length g)) arrows → All (λ a. (a.0 < length nodes) × (a.1 < length nodes)) held
held_inside nodes g held arrows same is inside =
    subst (λ (ns : List FlowNode). All (λ a. (a.0 < length ns) × (a.1 < length ns)) held) (sym same) (subst (λ (xs : List (ℕ × ℕ)). All (λ a. (a.0 < length g) × (a.1 < length g)) xs) (sym is) inside)

-- the shortest trace, or none
abbrev pub IsFound : (ℕ → ℕ → Type 0) → List FlowNode → ℕ → ℕ → List ℕ → Type 0
IsFound Goes g from to trace = IsShortestTrace Goes (IsAt g from) (IsAt g to) trace ⊎ ((trace ≡ []) × ((other : List ℕ) → ¬ IsTrace Goes (IsAt g from) (IsAt g to) other))

found_held : (nodes g : List FlowNode) (ordinary sp held arrows : List (ℕ × ℕ)) (skip_sp : Bool) (from to : ℕ) (trace : List ℕ) → nodes ≡ g → held ≡ arrows → ((m n : ℕ) → Contains arrows (m, n) ↔ Arrow (ListedEdge ordinary sp skip_sp) g m n) → IsFound (IsAfter held) nodes from to trace
    → IsFound (Arrow (ListedEdge ordinary sp skip_sp) g) g from to trace
found_held nodes g ordinary sp held arrows skip_sp from to trace same is lists found =
    let here : IsFound (IsAfter arrows) g from to trace = subst (λ (xs : List (ℕ × ℕ)). IsFound (IsAfter xs) g from to trace) is (subst (λ (ns : List FlowNode). IsFound (IsAfter held) ns from to trace) same found) in
    ⊎_elim
    (λ short. inl (shortest_like (IsAfter arrows) (Arrow (ListedEdge ordinary sp skip_sp) g) (IsAt g from) (IsAt g to) lists trace short))
    (λ none. inr (none.0, none_like (IsAfter arrows) (Arrow (ListedEdge ordinary sp skip_sp) g) (IsAt g from) (IsAt g to) (λ m n arrow. (lists m n).1 arrow) none.1)) here

pub why_path : (nodes g : List FlowNode) (ordinary sp held arrows : List (ℕ × ℕ)) (skip_sp : Bool) (from to : ℕ) (trace : List ℕ) → nodes ≡ g → held ≡ arrows → ((m n : ℕ) → Contains arrows (m, n) ↔ Arrow (ListedEdge ordinary sp skip_sp) g m n) → IsFound (IsAfter held) nodes from to trace
    → IsPath (ListedEdge ordinary sp skip_sp) g from to (reverse trace)
why_path nodes g ordinary sp held arrows skip_sp from to trace same is lists found =
    ⊎_elim
    (λ short. inl (subst (λ (t : List ℕ). IsShortestTrace (Arrow (ListedEdge ordinary sp skip_sp) g) (IsAt g from) (IsAt g to) t) (sym (reverse-reverse trace)) short))
    (λ none. inr (ap (λ (t : List ℕ). reverse t) none.0, none.1))
    (found_held nodes g ordinary sp held arrows skip_sp from to trace same is lists found)

pub trace_nodes : (nodes g : List FlowNode) (ordinary sp held arrows : List (ℕ × ℕ)) (skip_sp : Bool) (from to : ℕ) (part trace : List ℕ) → HasNodes g ordinary sp → nodes ≡ g → held ≡ arrows → ((m n : ℕ) → Contains arrows (m, n) ↔ Arrow (ListedEdge ordinary sp skip_sp) g m n) → part ≡ trace → IsFound (IsAfter held) nodes from to trace
    → All (λ n. n < length g) part
trace_nodes nodes g ordinary sp held arrows skip_sp from to part trace has same is lists whole found =
    subst (λ (xs : List ℕ). All (λ n. n < length g) xs) (sym whole)
    (⊎_elim
    (λ short. trace_inside g (Arrow (ListedEdge ordinary sp skip_sp) g) from to trace (arrow_from ordinary sp skip_sp g has) short.path)
    (λ none. subst (λ (xs : List ℕ). All (λ n. n < length g) xs) (sym none.0) (λ k d never. absurd (omega (arith, never))))
    (found_held nodes g ordinary sp held arrows skip_sp from to trace same is lists found))

pub hops_held : (g : List FlowNode) (ordinary sp : List (ℕ × ℕ)) (skip_sp : Bool) (part trace : List ℕ) (hops : List Hop) → part ≡ trace → AreHops (ListedEdge ordinary sp skip_sp) g part (reverse hops) → AreHops (ListedEdge ordinary sp skip_sp) g (reverse (reverse trace)) (reverse hops)
hops_held g ordinary sp skip_sp part trace hops whole are =
    subst (λ (xs : List ℕ). AreHops (ListedEdge ordinary sp skip_sp) g xs (reverse hops)) (sym (reverse-reverse trace)) (subst (λ (xs : List ℕ). AreHops (ListedEdge ordinary sp skip_sp) g xs (reverse hops)) whole are)

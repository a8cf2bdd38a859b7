-- What searches from an address find.
use Rattle.std.proofs.Common.{◌≡◌, ◌≢◌, ⊎_elim, ℕ, ◌+◌, ◌<◌, ◌≤◌, List, [], ◌∷◌, ◌++◌, length, get_or, take, refl, sym, ◌∙◌, ap, subst, arith, length-take, length-append, get_or-take}
use Rattle.std.specs.Prelude.{◌↔◌, All, Contains}
use Rattle.std.proofs.lemmas.Bool.{cases_eq}
use Rattle.std.proofs.lemmas.List.{get_or_append_left}
use Rattle.flow_graph.specs.declared.graph.FlowNode.{FlowNode}
use Rattle.flow_graph.specs.FlowGraph.{IsAt}
use Rattle.flow_graph.specs.Marked.Marked.{seed}
use Rattle.flow_graph.proofs.MarkedLaws.{marked_all}
use Rattle.slicer.specs.Slicer.{Arrow, InSlice}
use Rattle.slicer.specs.Search.{Grows, Follows}
use Rattle.slicer.proofs.GrowLemmas.{grows-has, marked-then}
use Rattle.slicer.proofs.SliceLaws.{slice-met}
use Rattle.chops.specs.Chops.{InForward}
use Rattle.chops.specs.Following.{AreNumbers}

pub forward_met : (Edge : ℕ → ℕ → Type 0) (nodes g : List FlowNode) (at : ℕ) (first met : List ℕ) → nodes ≡ g → ((n : ℕ) → Contains first n ↔ IsAt nodes at n) → Grows (Arrow Edge g) first met → Follows (Arrow Edge g) met met → (n : ℕ) → Contains met n ↔ InForward Edge g at n
forward_met Edge nodes g at first met same begins grows closed n = (
  λ has. marked-then (Contains first) (IsAt g at) (Arrow Edge g) (Arrow Edge g) (λ m in_first. seed (subst (λ (ns : List FlowNode). IsAt ns at m) same ((begins m).0 in_first))) (λ a b goes. goes) (grows.reached n has),
  λ found. marked_all (IsAt g at) (Arrow Edge g) (Contains met)
      (λ m stands. grows-has (Arrow Edge g) first met m grows ((begins m).1 (subst (λ (ns : List FlowNode). IsAt ns at m) (sym same) stands)))
      (λ a b arrow has. closed a b arrow has) found,
)

pub back_met : (Edge : ℕ → ℕ → Type 0) (nodes g : List FlowNode) (at : ℕ) (first met : List ℕ) → nodes ≡ g → ((n : ℕ) → Contains first n ↔ IsAt nodes at n) → Grows (λ n m. Arrow Edge g m n) first met → Follows (λ n m. Arrow Edge g m n) met met → (n : ℕ) → Contains met n ↔ InSlice Edge g at n
back_met Edge nodes g at first met same begins grows closed =
    slice-met Edge g at first met (λ n. subst (λ (ns : List FlowNode). Contains first n ↔ IsAt ns at n) same (begins n)) grows closed

-- ---- numbers

pub numbers_more : (xs : List ℕ) (n : ℕ) → length xs ≡ n → AreNumbers xs → AreNumbers (xs ++ n ∷ [])
numbers_more xs n many are k d lt =
    ⊎_elim
    (λ (same : k ≡ n). subst (λ j. get_or (xs ++ n ∷ []) j d ≡ j) (sym same) (subst (λ j. get_or (xs ++ n ∷ []) j d ≡ n) many (at_end xs n d)))
    (λ other.
    let len : length (xs ++ n ∷ []) ≡ length xs + 1 = length-append xs (n ∷ []) in
    let off : k ≢ n = other in
    let low : k < length xs = omega (arith, len, lt, off, many) in
    get_or_append_left xs (n ∷ []) d k low ∙ are k d low)
    (cases_eq k n)
  where
    at_end : (xs : List ℕ) (n d : ℕ) → get_or (xs ++ n ∷ []) (length xs) d ≡ n
    at_end [] n d = refl
    at_end (x ∷ xs) n d = at_end xs n d

pub many_more : (xs : List ℕ) (n : ℕ) → length xs ≡ n → length (xs ++ n ∷ []) ≡ n + 1
many_more xs n many = let len : length (xs ++ n ∷ []) ≡ length xs + 1 = length-append xs (n ∷ []) in omega (arith, len, many)

pub first_inside : (xs part : List ℕ) (count : ℕ) → part ≡ take count xs → count ≤ length xs → AreNumbers xs → All (λ n. n < count) part
first_inside xs part count is within are k d lt =
    let len : length part ≡ length (take count xs) = ap (λ (l : List ℕ). length l) is in
    let low : k < count = omega (arith, len, lt, length-take count xs, within) in
    let at : get_or part k d ≡ k = ap (λ (l : List ℕ). get_or l k d) is ∙ get_or-take count xs k d low ∙ are k d (omega (arith, low, within)) in
    subst (λ n. n < count) (sym at) low

pub first_all : (xs part : List ℕ) (count : ℕ) → part ≡ take count xs → count ≤ length xs → AreNumbers xs → (n : ℕ) → n < count → Contains part n
first_all xs part count is within are n lt =
    let len : length part ≡ length (take count xs) = ap (λ (l : List ℕ). length l) is in
    (n, omega (arith, len, lt, length-take count xs, within), ap (λ (l : List ℕ). get_or l n n) is ∙ get_or-take count xs n n lt ∙ are n n (omega (arith, lt, within)))

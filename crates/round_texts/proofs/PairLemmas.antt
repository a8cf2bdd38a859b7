-- Pairs of numbers in order.
use Rattle.std.proofs.Common.{◌≡◌, ◌⊎◌, ◌↔◌, inl, inr, ℕ, suc, zero, ◌<◌, Bool, true, ◌&&◌, List, [], ◌∷◌, length, sym, subst, arith, Contains}
use Rattle.std.specs.Prelude.{slice_index_or, nat_eq, nat_lt, ◌==◌, cond}
use Rattle.std.specs.declared.cmp.Ordering.{Ordering}
use Rattle.std.specs.declared.cmp.Ordering.TheVariants.{Less, Equal, Greater}
use Rattle.std.specs.Ordering.{nat_cmp, ordering_then, eq_by_cmp}
use Rattle.std.specs.Cmp.{IsTotalOrder, IsEquivalence, both_tied, unsigned_ties, nat_eq_equiv, first_so, second_so}
use Rattle.std.proofs.lemmas.Cmp.{then_total, on_total, nat_cmp_total, and_equiv, on_equiv}
use Rattle.std.specs.List.{dedup}
use Rattle.std.specs.List.Sorted.{IsSorted, IsStrictlySortedBy, IsPermutation}
use Rattle.std.specs.List.Retain.{IsFiltered, DiffersFromLast}
use Rattle.std.proofs.lemmas.List.Kept.{IsStrictlySortedBy-dedup, Contains-dedup, Contains-from_dedup}
use Rattle.std.proofs.lemmas.List.Filters.{dedup_is}
use Rattle.std.proofs.lemmas.List.Sorted.{Contains-permutation, IsPermutation-sym}
use Rattle.std.proofs.lemmas.Bool.{cond_both, ltb-true, eqb-true}
use Rattle.std.proofs.Math.Numerals.{add-one}
use Rattle.dep_graph.specs.Edges.{IsBefore, IsRising, ListsPairs}

abbrev pub Pair : Type 0
Pair = ℕ × ℕ

abbrev pub pair_cmp : Pair → Pair → Ordering
pair_cmp x y = ordering_then (nat_cmp x.0 y.0) (nat_cmp x.1 y.1)

abbrev pub pair_eq : Pair → Pair → Bool
pair_eq x y = nat_eq x.0 y.0 && nat_eq x.1 y.1

total : IsTotalOrder pair_cmp
total = then_total (on_total (λ (p : Pair). p.0) nat_cmp_total) (on_total (λ (p : Pair). p.1) nat_cmp_total)

ties : (x y : Pair) → pair_eq x y ≡ eq_by_cmp pair_cmp x y
ties x y = both_tied _ _ (nat_cmp x.0 y.0) (nat_cmp x.1 y.1) (unsigned_ties x.0 y.0) (unsigned_ties x.1 y.1)

equivalence : IsEquivalence pair_eq
equivalence = and_equiv (on_equiv (λ (p : Pair). p.0) nat_eq_equiv) (on_equiv (λ (p : Pair). p.1) nat_eq_equiv)

same : (x y : Pair) → pair_eq x y ≡ true → x ≡ y
same x y e =
    let p = eqb-true x.0 y.0 (first_so (nat_eq x.0 y.0) (nat_eq x.1 y.1) e) in
    let q = eqb-true x.1 y.1 (second_so (nat_eq x.0 y.0) (nat_eq x.1 y.1) e) in
    λ i. (p i, q i)

less_is : (a b : ℕ) → nat_cmp a b ≡ Less → a < b
less_is a b =
    cond_both (nat_lt a b) Less (cond (a == b) Equal Greater) (λ o. o ≡ Less → a < b) (λ yes e. ltb-true a b yes)
    (λ no. cond_both (a == b) Equal Greater (λ o. o ≡ Less → a < b) (λ _ e. absurd cc) (λ _ e. absurd cc))

then_less : (a b : ℕ) (o : Ordering) → ordering_then (nat_cmp a b) o ≡ Less → (a < b) ⊎ ((a ≡ b) × (o ≡ Less))
then_less a b o =
    cond_both (nat_lt a b) Less (cond (a == b) Equal Greater) (λ r. ordering_then r o ≡ Less → (a < b) ⊎ ((a ≡ b) × (o ≡ Less))) (λ yes e. inl (ltb-true a b yes))
    (λ no. cond_both (a == b) Equal Greater (λ r. ordering_then r o ≡ Less → (a < b) ⊎ ((a ≡ b) × (o ≡ Less))) (λ yes e. inr (eqb-true a b yes, e)) (λ _ e. absurd cc))

before : (x y : Pair) → pair_cmp x y ≡ Less → IsBefore x y
before x y e = elim (then_less x.0 y.0 (nat_cmp x.1 y.1) e) [
  | inl low ↦ inl low
  | inr tied ↦ inr (tied.0, less_is x.1 y.1 tied.1)
]

each_before : (xs : List Pair) → IsStrictlySortedBy pair_cmp xs → (k : ℕ) → suc k < length xs → IsBefore (slice_index_or xs k (0, 0)) (slice_index_or xs (suc k) (0, 0))
unfolding IsStrictlySortedBy
each_before [] h k few = absurd (omega arith)
each_before (x ∷ []) h k few = absurd (omega arith)
each_before (x ∷ y ∷ ys) h zero few = before x y h.0.0
each_before (x ∷ y ∷ ys) h (suc k) few = each_before (y ∷ ys) h.1 k (omega arith)

strictly_rising : (xs : List Pair) → IsStrictlySortedBy pair_cmp xs → IsRising xs
strictly_rising xs h k few =
    subst (λ n. IsBefore (slice_index_or xs k (0, 0)) (slice_index_or xs n (0, 0))) (sym (add-one k)) (each_before xs h k (omega arith))

-- what is left of all pairs of which this holds, sorted and each once
pub rising_once : (P : ℕ → ℕ → Type 0) (all sorted once : List Pair) → ((m n : ℕ) → Contains all (m, n) ↔ P m n) → IsPermutation all sorted → IsSorted pair_cmp sorted → IsFiltered (DiffersFromLast pair_eq) [] sorted once → ListsPairs P once
rising_once P all sorted once each moved order kept =
    let are : once ≡ dedup pair_eq sorted = dedup_is pair_eq sorted once kept in
    subst (λ xs. ListsPairs P xs) (sym are) (record {
      rising = strictly_rising (dedup pair_eq sorted) (IsStrictlySortedBy-dedup total ties sorted order);
      listed = λ m n. (
        λ has. (each m n).0 (Contains-permutation sorted all (m, n) (IsPermutation-sym all sorted moved) (Contains-from_dedup pair_eq sorted (m, n) has)),
        λ holds. Contains-dedup equivalence same sorted (m, n) (Contains-permutation all sorted (m, n) moved ((each m n).1 holds)),
      );
    })

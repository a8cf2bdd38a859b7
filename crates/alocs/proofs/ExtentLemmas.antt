-- Extents that rise: where an offset stands among them, and how one is put in.
use Rattle.std.proofs.Common.{◌≡◌, ℕ, zero, suc, ◌<◌, ◌≤◌, true, false, ℤ, Some, None, List, [], ◌∷◌, length, get_or, refl, sym, subst, arith}
use Rattle.std.specs.Prelude.{◌≤ℤ◌, ◌<ℤ◌, int_le, int_lt, find, slice_get}
use Rattle.std.specs.List.Sorted.{IsPartitionedBy, IsPartitionPoint}
use Rattle.std.proofs.lemmas.Int.{ints}
use Rattle.strided.proofs.MemberLemmas.{int_le_true, int_le_false, le_int_le}
use Rattle.alocs.specs.declared.extents.Extent.{Extent}
use Rattle.alocs.specs.Extents.{RiseFrom}
use Rattle.alocs.proofs.CellLemmas.{lt_int_lt, le_int_lt}

-- later extents end higher
ends_above : (low : ℤ) (xs : List Extent) (k : ℕ) (d : Extent) → RiseFrom low xs → k < length xs → low <ℤ (get_or xs k d).end
ends_above low [] k d h lt = absurd (omega arith)
ends_above low (x ∷ xs) zero d h lt = let p = h.0 in let q = h.1 in omega (arith, ints)
ends_above low (x ∷ xs) (suc k) d h lt = let p = h.0 in let q = h.1 in let r = ends_above x.end xs k d h.2 (omega arith) in omega (arith, ints)

ends_rise : (low : ℤ) (xs : List Extent) → RiseFrom low xs → (i j : ℕ) (d : Extent) → i ≤ j → j < length xs → (get_or xs i d).end ≤ℤ (get_or xs j d).end
ends_rise low [] h i j d le lt = absurd (omega arith)
ends_rise low (x ∷ xs) h zero zero d le lt = omega (arith, ints)
ends_rise low (x ∷ xs) h zero (suc j) d le lt = let r = ends_above x.end xs j d h.2 (omega arith) in omega (arith, ints)
ends_rise low (x ∷ xs) h (suc i) zero d le lt = absurd (omega arith)
ends_rise low (x ∷ xs) h (suc i) (suc j) d le lt = ends_rise x.end xs h.2 i j d (omega arith) (omega arith)

pub extents_parted : (low at : ℤ) (xs : List Extent) → RiseFrom low xs → IsPartitionedBy (λ (x : Extent). int_le x.end at) xs
extents_parted low at xs h = λ i j d le lt up.
    let q : (get_or xs j d).end ≤ℤ at = int_le_true (get_or xs j d).end at up in
    let r = ends_rise low xs h i j d le lt in
    le_int_le (get_or xs i d).end at (omega (arith, ints))

-- the extent that a search by halves finds
pub found_at_point : (at : ℤ) (xs : List Extent) (i : ℕ) → i ≤ length xs → IsPartitionPoint (λ (x : Extent). int_le x.end at ≡ true) (λ x. int_le x.end at ≡ false) xs i → slice_get xs i ≡ find (λ (x : Extent). int_lt at x.end) xs
found_at_point at [] zero le p = refl
found_at_point at [] (suc i) le p = absurd (omega arith)
found_at_point at (x ∷ xs) zero le p =
    let above : at <ℤ x.end = int_le_false x.end at (p.1 0 x (omega arith) (omega arith)) in
    let here : int_lt at x.end ≡ true = lt_int_lt at x.end above in
    rw here refl
found_at_point at (x ∷ xs) (suc i) le p =
    let below : x.end ≤ℤ at = int_le_true x.end at (p.0 0 x (omega arith) (omega arith)) in
    let here : int_lt at x.end ≡ false = le_int_lt at x.end below in
    rw here (found_at_point at xs i (omega arith) (λ k d q r. p.0 (suc k) d (omega arith) (omega arith), λ k d q r. p.1 (suc k) d (omega arith) (omega arith)))

-- ---- what calls give, in plain variables

pub extent_is : (xs : List Extent) (x : Extent) {past : ℤ} → Some x ≡ find (λ (y : Extent). int_lt past y.end) xs → (at : ℤ) → past ≡ at → find (λ (y : Extent). int_lt at y.end) xs ≡ Some x
extent_is xs x e at q = sym (subst (λ (a : ℤ). Some x ≡ find (λ (y : Extent). int_lt a y.end) xs) q e)

pub none_is : (xs : List Extent) {past : ℤ} → None ≡ find (λ (y : Extent). int_lt past y.end) xs → (at : ℤ) → past ≡ at → find (λ (y : Extent). int_lt at y.end) xs ≡ None
none_is xs e at q = sym (subst (λ (a : ℤ). None ≡ find (λ (y : Extent). int_lt a y.end) xs) q e)

pub extents_lower : (low high : ℤ) (xs : List Extent) → low ≤ℤ high → RiseFrom high xs → RiseFrom low xs
extents_lower low high [] le h = tt
extents_lower low high (x ∷ xs) le h = let p = h.0 in (omega (arith, ints), h.1, h.2)

-- Whatever offset a region has lies in a cell, and the cells of a region that is listed have places.
use Rattle.std.proofs.Common.{◌≡◌, inl, inr, ⊎_elim, ℕ, ◌+◌, ◌==◌, Bool, true, false, cond, ◌&&◌, ◌||◌, List, [], ◌∷◌, map, Some, ℤ, refl, sym, ap, subst, ◌∙◌, eqb-true}
use Rattle.std.specs.Prelude.{int_le, int_lt, nat_lt, ◌<ℤ◌, ◌≤ℤ◌}
use Rattle.std.specs.List.{list_any, flat_map}
use Rattle.std.proofs.lemmas.Bool.{false≢true, and_parts, and_from, or_left, or_right, or_cases, cond_both}
use Rattle.std.proofs.lemmas.List.Folds.{list_any-append}
use Rattle.image_map.specs.declared.region.Cell.{Cell}
use Rattle.image_map.specs.declared.region.RegionId.{RegionId}
use Rattle.image_map.specs.Regions.{same_region}
use Rattle.image_map.proofs.OrderLaws.{same_region-itself}
use Rattle.strided.proofs.MemberLemmas.{int_le_true, le_int_le, int_either}
use Rattle.alocs.specs.declared.extents.Extent.{Extent}
use Rattle.alocs.specs.Cells.{holds, cells_from, cells_in}
use Rattle.alocs.specs.Extents.{has_offset}
use Rattle.alocs.proofs.CellLemmas.{int_lt_true, lt_int_lt}
use Rattle.abs_semantics.specs.Joins.{with_number, numbers_of}
use Rattle.call_soundness.specs.Maps.{IsListed}
use Rattle.call_soundness.proofs.StayLaws.{listed_left, listed_right}
use Rattle.graph_soundness.specs.Drawn.{place_in}

-- -- What is in a list

pub listed_map : {A B : Type 0} (f : A → B) (x : A) (xs : List A) → IsListed x xs → IsListed (f x) (map f xs)
listed_map f x [] h = absurd h
listed_map f x (z ∷ xs) (inl e) = inl (ap f e)
listed_map f x (z ∷ xs) (inr h) = inr (listed_map f x xs h)

pub listed_flat : {A B : Type 0} (f : A → List B) (y : B) (x : A) (xs : List A) → IsListed x xs → IsListed y (f x) → IsListed y (flat_map f xs)
listed_flat f y x [] h has = absurd h
listed_flat f y x (z ∷ xs) (inl e) has = listed_left y (f z) (flat_map f xs) (subst (λ w. IsListed y (f w)) (sym e) has)
listed_flat f y x (z ∷ xs) (inr h) has = listed_right y (f z) (flat_map f xs) (listed_flat f y x xs h has)

any_flat : {A B : Type 0} (test : B → Bool) (f : A → List B) (x : A) (xs : List A) → IsListed x xs → list_any test (f x) ≡ true → list_any test (flat_map f xs) ≡ true
any_flat test f x [] h has = absurd h
any_flat test f x (z ∷ xs) (inl e) has =
    list_any-append test (f z) (flat_map f xs) ∙ or_left (list_any test (f z)) (list_any test (flat_map f xs)) (ap (λ w. list_any test (f w)) e ∙ has)
any_flat test f x (z ∷ xs) (inr h) has =
    list_any-append test (f z) (flat_map f xs) ∙ or_right (list_any test (f z)) (list_any test (flat_map f xs)) (any_flat test f x xs h has)

-- a number that is put among others is there, and so is each that was
number_put : (n : ℕ) (xs : List ℕ) → IsListed n (with_number n xs)
number_put n [] = inl refl
number_put n (x ∷ xs) = by (x == n) refl (nat_lt x n) (number_put n xs)
  where
    by : (b : Bool) → (x == n) ≡ b → (c : Bool) → IsListed n (with_number n xs) → IsListed n (cond b (x ∷ xs) (cond c (x ∷ with_number n xs) (n ∷ x ∷ xs)))
    by true e c rest = inl (eqb-true x n e)
    by false e true rest = inr rest
    by false e false rest = inl refl

number_kept : (m n : ℕ) (xs : List ℕ) → IsListed m xs → IsListed m (with_number n xs)
number_kept m n [] h = absurd h
number_kept m n (x ∷ xs) h = by (x == n) (nat_lt x n) (number_kept m n xs) h
  where
    by : (b c : Bool) → (IsListed m xs → IsListed m (with_number n xs)) → IsListed m (x ∷ xs) → IsListed m (cond b (x ∷ xs) (cond c (x ∷ with_number n xs) (n ∷ x ∷ xs)))
    by true c rest h = h
    by false true rest (inl e) = inl e
    by false true rest (inr h) = inr (rest h)
    by false false rest h = inr h

pub number_listed : (n : ℕ) (xs ys : List ℕ) → IsListed n xs → IsListed n (numbers_of xs ys)
unfolding numbers_of
number_listed n [] ys h = absurd h
number_listed n (x ∷ xs) ys (inl e) = subst (λ m. IsListed m (with_number x (numbers_of xs ys))) e (number_put x (numbers_of xs ys))
number_listed n (x ∷ xs) ys (inr h) = number_kept n x (numbers_of xs ys) (number_listed n xs ys h)

-- -- Cells

-- a cell of the region with the offset
abbrev pub is_cell : RegionId → ℤ → Cell → Bool
is_cell region offset c = same_region c.region region && holds offset c

from_cuts : (r : RegionId) (offset start : ℤ) (cuts : List ℤ) (end : ℤ) → start ≤ℤ offset → offset <ℤ end → list_any (is_cell r offset) (cells_from r start cuts end) ≡ true
from_cuts r offset start [] end low high =
    or_left (is_cell r offset (record { region = r; start = start; end = end })) false
    (and_from (same_region r r) (int_le start offset && int_lt offset end) (same_region-itself r) (and_from (int_le start offset) (int_lt offset end) (le_int_le start offset low) (lt_int_lt offset end high)))
from_cuts r offset start (cut ∷ cuts) end low high =
    cond_both (int_lt start cut && int_lt cut end) (record { region = r; start = start; end = cut } ∷ cells_from r cut cuts end) (cells_from r start cuts end) (λ cs. list_any (is_cell r offset) cs ≡ true)
    (λ _. ⊎_elim
    (λ above. or_right (is_cell r offset (record { region = r; start = start; end = cut })) (list_any (is_cell r offset) (cells_from r cut cuts end)) (from_cuts r offset cut cuts end above high))
    (λ below. or_left (is_cell r offset (record { region = r; start = start; end = cut })) (list_any (is_cell r offset) (cells_from r cut cuts end))
    (and_from (same_region r r) (int_le start offset && int_lt offset cut) (same_region-itself r) (and_from (int_le start offset) (int_lt offset cut) (le_int_le start offset low) (lt_int_lt offset cut below))))
    (int_either cut offset))
    (λ _. from_cuts r offset start cuts end low high)

-- an offset of a region lies in one of its cells
pub offset_held : (r : RegionId) (offset : ℤ) (xs : List Extent) (cuts : List ℤ) → has_offset xs offset ≡ true → list_any (is_cell r offset) (cells_in r xs cuts) ≡ true
offset_held r offset [] cuts has = absurd (false≢true has)
offset_held r offset (x ∷ xs) cuts has =
    list_any-append (is_cell r offset) (cells_from r x.start cuts x.end) (cells_in r xs cuts)
    ∙ ⊎_elim
    (λ here.
    let both = and_parts (int_le x.start offset) (int_lt offset x.end) here in
    or_left (list_any (is_cell r offset) (cells_from r x.start cuts x.end)) (list_any (is_cell r offset) (cells_in r xs cuts))
    (from_cuts r offset x.start cuts x.end (int_le_true x.start offset both.0) (int_lt_true offset x.end both.1)))
    (λ later. or_right (list_any (is_cell r offset) (cells_from r x.start cuts x.end)) (list_any (is_cell r offset) (cells_in r xs cuts)) (offset_held r offset xs cuts later))
    (or_cases (int_le x.start offset && int_lt offset x.end) (has_offset xs offset) has)

-- the cells of a region that is listed are among all
pub cell_among : (f : RegionId → List Cell) (r : RegionId) (offset : ℤ) (rs : List RegionId) → IsListed r rs → list_any (is_cell r offset) (f r) ≡ true → list_any (is_cell r offset) (flat_map f rs) ≡ true
cell_among f r offset rs listed has = any_flat (is_cell r offset) f r rs listed has

-- a cell that is there has a place
pub place_there : (first : ℕ) (cs : List Cell) (region : RegionId) (offset : ℤ) → list_any (is_cell region offset) cs ≡ true → (place : ℕ) × (place_in first cs region offset ≡ Some place)
unfolding place_in
place_there first [] region offset has = absurd (false≢true has)
place_there first (c ∷ cs) region offset has = by (is_cell region offset c) (place_there (first + 1) cs region offset) has
  where
    by : (b : Bool) → (list_any (is_cell region offset) cs ≡ true → (place : ℕ) × (place_in (first + 1) cs region offset ≡ Some place)) → (b || list_any (is_cell region offset) cs) ≡ true
        → (place : ℕ) × (cond b (Some first) (place_in (first + 1) cs region offset) ≡ Some place)
    by true rest has = (first, refl)
    by false rest has = rest has

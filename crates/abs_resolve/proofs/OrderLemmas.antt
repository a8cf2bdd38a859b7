-- Lists of parts that rise have each part once, so whatever holds all of them is as long at least.
use Rattle.std.proofs.Common.{◌≡◌, ◌≤◌, inl, inr, Bool, true, false, cond, List, [], ◌∷◌, length, refl, sym, ◌∙◌, ap}
use Rattle.std.specs.Prelude.{◌==◌, ◌&&◌, ◌||◌}
use Rattle.std.specs.List.{list_any, AllByRecursion}
use Rattle.std.specs.List.Sorted.{IsStrictlySortedBy}
use Rattle.std.specs.Cmp.{IsTotalOrder, on_total, then_total, nat_cmp_total, int_cmp_total, eq_by_cmp_equiv, unsigned_tied}
use Rattle.std.specs.declared.cmp.Ordering.{Ordering}
use Rattle.std.specs.declared.cmp.Ordering.TheVariants.{Less, Equal, Greater}
use Rattle.std.specs.Ordering.{is_eq, is_lt, nat_cmp, int_cmp, int_eq, on, then_cmp, ordering_then, ordering_reverse, eq_by_cmp}
use Rattle.std.proofs.lemmas.Bool.{cond_both, or_right, true≢false}
use Rattle.std.proofs.lemmas.Map.Keys.{IsDistinct-from_sorted}
use Rattle.std.proofs.lemmas.Map.Made.{length-le_from_is_member}
use Rattle.image_map.specs.Regions.{region_cmp, same_region, region_before}
use Rattle.image_map.specs.TotalOrders.{region_total}
use Rattle.strided.specs.Interval.{Interval}
use Rattle.strided.specs.Order.{interval_cmp}
use Rattle.vset.specs.declared.part.Part.{Part}
use Rattle.vset.specs.Operations.{same_interval, same_part}
use Rattle.abs_semantics.specs.Resolve.{interval_before, part_before, put_part, rising_onto}
use Rattle.abs_semantics.proofs.LevelLemmas.{IsAmong, rising_new}
use Rattle.image_map.proofs.OrderLemmas.{nat_before, int_before, less}

-- -- The order of parts

abbrev part_cmp : Part → Part → Ordering
part_cmp = then_cmp (on (λ (x : Part). x.region) region_cmp) (on (λ (x : Part). x.si) interval_cmp)

interval_total : IsTotalOrder interval_cmp
interval_total = then_total (on_total (λ (a : Interval). a.stride) nat_cmp_total) (then_total (on_total (λ (a : Interval). a.lo) int_cmp_total) (on_total (λ (a : Interval). a.hi) int_cmp_total))

part_total : IsTotalOrder part_cmp
part_total = then_total (on_total (λ (x : Part). x.region) region_total) (on_total (λ (x : Part). x.si) interval_total)

eq_then : (r s : Ordering) → is_eq (ordering_then r s) ≡ (is_eq r && is_eq s)
eq_then Less s = refl
eq_then Equal s = refl
eq_then Greater s = refl

lt_then : (r s : Ordering) → is_lt (ordering_then r s) ≡ cond (is_eq r) (is_lt s) (is_lt r)
lt_then Less s = refl
lt_then Equal s = refl
lt_then Greater s = refl

interval_same : (a b : Interval) → is_eq (interval_cmp a b) ≡ same_interval a b
interval_same a b =
    rw (eq_then (nat_cmp a.stride b.stride) (ordering_then (int_cmp a.lo b.lo) (int_cmp a.hi b.hi)), eq_then (int_cmp a.lo b.lo) (int_cmp a.hi b.hi), unsigned_tied a.stride b.stride) (assoc (a.stride == b.stride) (int_eq a.lo b.lo) (int_eq a.hi b.hi))
  where
    assoc : (s t u : Bool) → (s && (t && u)) ≡ (s && t && u)
    assoc true t u = refl
    assoc false t u = refl

interval_lower : (a b : Interval) → is_lt (interval_cmp a b) ≡ interval_before a b
interval_lower a b =
    rw (lt_then (nat_cmp a.stride b.stride) (ordering_then (int_cmp a.lo b.lo) (int_cmp a.hi b.hi)), lt_then (int_cmp a.lo b.lo) (int_cmp a.hi b.hi), unsigned_tied a.stride b.stride, nat_before a.stride b.stride, int_before a.lo b.lo, int_before a.hi b.hi) refl

part_same : (x y : Part) → is_eq (part_cmp x y) ≡ same_part x y
unfolding region_cmp
part_same x y = eq_then (region_cmp x.region y.region) (interval_cmp x.si y.si) ∙ ap (λ t. same_region x.region y.region && t) (interval_same x.si y.si)

part_lower : (x y : Part) → is_lt (part_cmp x y) ≡ part_before x y
unfolding region_cmp
part_lower x y = lt_then (region_cmp x.region y.region) (interval_cmp x.si y.si) ∙ ap (λ t. cond (same_region x.region y.region) t (region_before x.region y.region)) (interval_lower x.si y.si)

-- -- Lists that rise

turned : (r s : Ordering) → r ≡ ordering_reverse s → is_eq s ≡ false → is_lt s ≡ false → r ≡ Less
turned r Less turn ne nlt = absurd (true≢false nlt)
turned r Equal turn ne nlt = absurd (true≢false ne)
turned r Greater turn ne nlt = turn

all_put : (P : Part → Type 0) (x : Part) (ys : List Part) → P x → AllByRecursion P ys → AllByRecursion P (put_part x ys)
all_put P x [] first all = (first, all)
all_put P x (y ∷ ys) first all =
    cond_both (same_part y x) (y ∷ ys) (cond (part_before y x) (y ∷ put_part x ys) (x ∷ y ∷ ys)) (AllByRecursion P) (λ _. all)
    (λ _. cond_both (part_before y x) (y ∷ put_part x ys) (x ∷ y ∷ ys) (AllByRecursion P) (λ _. (all.0, all_put P x ys first all.1)) (λ _. (first, all)))

all_below : (x y : Part) (ys : List Part) → part_cmp x y ≡ Less → AllByRecursion (λ z. part_cmp y z ≡ Less) ys → AllByRecursion (λ z. part_cmp x z ≡ Less) ys
all_below x y [] lower all = all
all_below x y (z ∷ zs) lower all = (part_total.trans x y z lower all.0, all_below x y zs lower all.1)

put_sorted : (x : Part) (ys : List Part) → IsStrictlySortedBy part_cmp ys → IsStrictlySortedBy part_cmp (put_part x ys)
unfolding IsStrictlySortedBy
put_sorted x [] sorted = (sorted, sorted)
put_sorted x (y ∷ ys) sorted =
    cond_both (same_part y x) (y ∷ ys) (cond (part_before y x) (y ∷ put_part x ys) (x ∷ y ∷ ys)) (IsStrictlySortedBy part_cmp) (λ _. sorted)
    (λ ne. cond_both (part_before y x) (y ∷ put_part x ys) (x ∷ y ∷ ys) (IsStrictlySortedBy part_cmp)
    (λ lower. (all_put (λ z. part_cmp y z ≡ Less) x ys (less (part_cmp y x) (part_lower y x ∙ lower)) sorted.0, put_sorted x ys sorted.1))
    (λ higher.
    let first = turned (part_cmp x y) (part_cmp y x) (part_total.antisymm x y) (part_same y x ∙ ne) (part_lower y x ∙ higher) in
    ((first, all_below x y ys first sorted.0), sorted)))

rising_sorted : (acc xs : List Part) → IsStrictlySortedBy part_cmp acc → IsStrictlySortedBy part_cmp (rising_onto acc xs)
unfolding rising_onto
rising_sorted acc [] sorted = sorted
rising_sorted acc (x ∷ xs) sorted = rising_sorted (put_part x acc) xs (put_sorted x acc sorted)

-- -- As long at least

any_here : (f : Part → Bool) (x : Part) (zs : List Part) → IsAmong x zs → f x ≡ true → list_any f zs ≡ true
any_here f x [] h is = absurd h
any_here f x (z ∷ zs) (inl here) is = ap (λ t. t || list_any f zs) (ap f here ∙ is)
any_here f x (z ∷ zs) (inr later) is = or_right (f z) (list_any f zs) (any_here f x zs later is)

any_moves : (f : Part → Bool) (xs ys : List Part) → ((z : Part) → IsAmong z xs → IsAmong z ys) → list_any f xs ≡ true → list_any f ys ≡ true
any_moves f [] ys moves is = absurd (true≢false (sym is))
any_moves f (x ∷ xs) ys moves is = by_test (any_moves f xs ys (λ z among. moves z (inr among))) (f x) refl is
  where
    any_at : IsAmong x ys → f x ≡ true → list_any f ys ≡ true
    any_at among is = any_here f x ys among is

    by_test : (list_any f xs ≡ true → list_any f ys ≡ true) → (t : Bool) → f x ≡ t → (t || list_any f xs) ≡ true → list_any f ys ≡ true
    by_test later true is h = any_at (moves x (inl refl)) is
    by_test later false isnt h = later h

-- a list of parts from a rising one is as long at least
pub risen_longer : (acc raw : List Part) → length (rising_onto [] raw) ≤ length (rising_onto acc (rising_onto [] raw))
unfolding IsStrictlySortedBy
risen_longer acc raw =
    let xs = rising_onto [] raw in
    length-le_from_is_member (eq_by_cmp_equiv part_total) xs (rising_onto acc xs) (IsDistinct-from_sorted part_cmp xs (rising_sorted [] raw tt))
    (λ q m. any_moves (eq_by_cmp part_cmp q) xs (rising_onto acc xs) (λ z among. rising_new z acc xs among) m)

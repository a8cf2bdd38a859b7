-- The order of cuts.
use Rattle.std.proofs.Common.{◌≡◌, ℕ, zero, suc, ◌<◌, ◌≤◌, Bool, true, false, ◌⊎◌, inl, inr, ⊎_elim, List, [], ◌∷◌, ◌++◌, length, get_or, refl, sym, subst, ap, ◌∙◌, arith}
use Rattle.std.specs.Prelude.{int_lt, slice_get, Contains, OnOk, OnErr}
use Rattle.std.specs.declared.alloc.AllocError.{AllocError}
use Rattle.std.specs.declared.result.Result.{Result}
use Rattle.std.specs.declared.result.Result.TheVariants.{Ok, Err}
use Rattle.std.specs.Cmp.{IsTotalOrder, int_cmp_total, on_total, then_total, signed_Decides}
use Rattle.std.specs.List.{insert}
use Rattle.std.specs.List.Sorted.{IsPartitionedBy, IsPartitionPoint}
use Rattle.std.specs.Option.{option_map_or}
use Rattle.std.specs.Ordering.{int_cmp, int_eq, is_eq, is_lt}
use Rattle.std.specs.List.Sorted.{IsPermutation}
use Rattle.std.proofs.lemmas.Bool.{true≢false}
use Rattle.std.proofs.lemmas.List.Sorted.{IsPermutation-cons, IsPermutation-insert, IsPermutation-sym, IsPermutation-to_front, IsPermutation-trans, Contains-permutation}
use Rattle.image_map.specs.Regions.{region_cmp, same_region, region_before}
use Rattle.image_map.specs.TotalOrders.{region_total}
use Rattle.image_map.proofs.OrderLaws.{same_region-equal}
use Rattle.image_map.proofs.OrderLemmas.{before-trans, before-total, then-tied, before-then, same-then, int_before}
use Rattle.asi_cuts.specs.declared.set.Cut.{Cut}
use Rattle.asi_cuts.specs.Closed.{cut_cmp, cut_before, same_cut, RiseBehind, AreDifferent}

pub cut_total : IsTotalOrder cut_cmp
unfolding cut_cmp
cut_total = then_total (on_total (λ c. c.region) region_total) (on_total (λ c. c.offset) int_cmp_total)

-- ---- the comparisons that the code makes

pub before_alike : (a b : Cut) (here : Bool) → true ≡ same_region a.region b.region → here ≡ int_lt a.offset b.offset → here ≡ cut_before a b
unfolding cut_cmp
before_alike a b here e is = is ∙ (sym (int_before a.offset b.offset) ∙ ap is_lt (sym (then-tied (region_cmp a.region b.region) (int_cmp a.offset b.offset) (sym e))))

pub before_other : (a b : Cut) (here : Bool) → false ≡ same_region a.region b.region → here ≡ region_before a.region b.region → here ≡ cut_before a b
unfolding cut_cmp
before_other a b here e is = is ∙ before-then (region_cmp a.region b.region) (int_cmp a.offset b.offset) (sym e)

pub same_alike : (a b : Cut) (here : Bool) → true ≡ same_region a.region b.region → here ≡ int_eq a.offset b.offset → here ≡ same_cut a b
unfolding cut_cmp
same_alike a b here e is = is ∙ ap is_eq (sym (then-tied (region_cmp a.region b.region) (int_cmp a.offset b.offset) (sym e)))

pub same_other : (a b : Cut) → false ≡ same_region a.region b.region → false ≡ same_cut a b
unfolding cut_cmp
same_other a b e = e ∙ same-then (region_cmp a.region b.region) (int_cmp a.offset b.offset) (sym e)

both_tied : (a b : Cut) → same_cut a b ≡ true → (same_region a.region b.region ≡ true) × (is_eq (int_cmp a.offset b.offset) ≡ true)
unfolding cut_cmp
both_tied a b h =
    ⊎_elim (λ (e : same_region a.region b.region ≡ true). (e, ap is_eq (sym (then-tied (region_cmp a.region b.region) (int_cmp a.offset b.offset) e)) ∙ h))
    (λ (e : same_region a.region b.region ≡ false). absurd (true≢false (sym h ∙ sym (same_other a b (sym e)))))
    (cases (same_region a.region b.region))
  where
    cases : (b : Bool) → (b ≡ true) ⊎ (b ≡ false)
    cases true = inl refl
    cases false = inr refl

pub same_cut-equal : (a b : Cut) → same_cut a b ≡ true → a ≡ b
same_cut-equal a b h =
    let both = both_tied a b h in
    let region : a.region ≡ b.region = same_region-equal a.region b.region both.0 in
    let offset : a.offset ≡ b.offset = (signed_Decides a.offset b.offset).0 both.1 in
    λ i. record { region = region i; offset = offset i }

-- ---- cuts in their order

behind_all : (low : Cut) (xs : List Cut) (k : ℕ) (d : Cut) → RiseBehind low xs → k < length xs → cut_before low (get_or xs k d) ≡ true
behind_all low [] k d h lt = absurd (omega arith)
behind_all low (x ∷ xs) zero d h lt = h.0
behind_all low (x ∷ xs) (suc k) d h lt = before-trans cut_total low x (get_or xs k d) h.0 (behind_all x xs k d h.1 (omega arith))

pub rising_tail : (x : Cut) (xs : List Cut) → RiseBehind x xs → AreDifferent xs
rising_tail x [] h = tt
rising_tail x (y ∷ ys) h = h.1

pub cuts_parted : (c : Cut) (xs : List Cut) → AreDifferent xs → IsPartitionedBy (λ (x : Cut). cut_before x c) xs
cuts_parted c [] h = λ i j d le lt up. absurd (omega arith)
cuts_parted c (x ∷ xs) h = go x xs h
  where
    go : (x : Cut) (xs : List Cut) → RiseBehind x xs → (i j : ℕ) (d : Cut) → i ≤ j → j < length (x ∷ xs) → cut_before (get_or (x ∷ xs) j d) c ≡ true → cut_before (get_or (x ∷ xs) i d) c ≡ true
    go x xs h zero zero d le lt up = up
    go x xs h zero (suc j) d le lt up = before-trans cut_total x (get_or xs j d) c (behind_all x xs j d h (omega arith)) up
    go x xs h (suc i) zero d le lt up = absurd (omega arith)
    go x [] h (suc i) (suc j) d le lt up = absurd (omega arith)
    go x (y ∷ ys) h (suc i) (suc j) d le lt up = go y ys h.1 i j d (omega arith) (omega arith) up

-- the cut isn't at its place
abbrev pub IsAbsent : Cut → List Cut → ℕ → Type 0
IsAbsent c xs i = option_map_or (λ (x : Cut). same_cut x c) (slice_get xs i) false ≡ false

flipped : (a b : Cut) → cut_before a b ≡ false → same_cut a b ≡ false → cut_before b a ≡ true
flipped a b h k = before-total cut_total a b k h

insert_behind : (low c : Cut) (xs : List Cut) (i : ℕ) → RiseBehind low xs → cut_before low c ≡ true → i ≤ length xs → IsPartitionPoint (λ (x : Cut). cut_before x c ≡ true) (λ x. cut_before x c ≡ false) xs i → IsAbsent c xs i
    → RiseBehind low (insert xs i c)
insert_behind low c [] zero h lt few p absent = (lt, tt)
insert_behind low c [] (suc i) h lt few p absent = absurd (omega arith)
insert_behind low c (x ∷ xs) zero h lt few p absent = (lt, (flipped x c (p.1 0 x (omega arith) (omega arith)) absent, h.1))
insert_behind low c (x ∷ xs) (suc i) h lt few p absent =
    (h.0, insert_behind x c xs i h.1 (p.0 0 x (omega arith) (omega arith)) (omega arith) (λ k d q r. p.0 (suc k) d (omega arith) (omega arith), λ k d q r. p.1 (suc k) d (omega arith) (omega arith)) absent)

-- a cut put at its place leaves the cuts in their order
pub inserted : (c : Cut) (xs : List Cut) (i : ℕ) → AreDifferent xs → i ≤ length xs → IsPartitionPoint (λ (x : Cut). cut_before x c ≡ true) (λ x. cut_before x c ≡ false) xs i → IsAbsent c xs i → AreDifferent (insert xs i c)
inserted c [] zero h few p absent = tt
inserted c [] (suc i) h few p absent = absurd (omega arith)
inserted c (x ∷ xs) zero h few p absent = (flipped x c (p.1 0 x (omega arith) (omega arith)) absent, h)
inserted c (x ∷ xs) (suc i) h few p absent =
    insert_behind x c xs i h (p.0 0 x (omega arith) (omega arith)) (omega arith) (λ k d q r. p.0 (suc k) d (omega arith) (omega arith), λ k d q r. p.1 (suc k) d (omega arith) (omega arith)) absent

-- a cut that is at its place
pub present : (c : Cut) (xs : List Cut) (i : ℕ) → option_map_or (λ (x : Cut). same_cut x c) (slice_get xs i) false ≡ true → Contains xs c
present c [] i h = absurd (true≢false (sym h))
present c (x ∷ xs) zero h = (zero, omega arith, same_cut-equal x c h)
present c (x ∷ xs) (suc i) h = let r = present c xs i h in (suc r.0, (let lt = r.1 in omega arith), r.2)

-- ---- what the code knows

-- a cut is put into both lists
pub both_put : (found new_found sorted new_sorted view : List Cut) (c : Cut) (i : ℕ) (answer : Bool) → new_found ≡ found ++ c ∷ [] → new_sorted ≡ insert sorted i c → view ≡ sorted
    → AreDifferent sorted → IsPermutation found sorted → i ≤ length view → IsPartitionPoint (λ (x : Cut). cut_before x c ≡ true) (λ x. cut_before x c ≡ false) view i
    → answer ≡ option_map_or (λ (x : Cut). same_cut x c) (slice_get view i) false → answer ≡ false → AreDifferent new_sorted × IsPermutation new_found new_sorted
both_put found new_found sorted new_sorted view c i answer at_end at_place seen different same few point is no_such = (
  subst (λ (l : List Cut). AreDifferent l) (sym at_place)
      (inserted c sorted i different (subst (λ (l : List Cut). i ≤ length l) seen few) (subst (λ (l : List Cut). IsPartitionPoint (λ (x : Cut). cut_before x c ≡ true) (λ x. cut_before x c ≡ false) l i) seen point)
      (subst (λ (l : List Cut). IsAbsent c l i) seen (sym is ∙ no_such))),
  subst (λ (l : List Cut). IsPermutation new_found l) (sym at_place) (subst (λ (l : List Cut). IsPermutation l (insert sorted i c)) (sym at_end)
      (IsPermutation-trans (found ++ c ∷ []) (c ∷ found) (insert sorted i c) (IsPermutation-to_front found c)
      (IsPermutation-trans (c ∷ found) (c ∷ sorted) (insert sorted i c) (IsPermutation-cons c found sorted same) (IsPermutation-insert sorted i c)))),
)

pub there_already : (now found sorted view : List Cut) (c : Cut) (i : ℕ) (answer : Bool) → found ≡ now → view ≡ sorted → IsPermutation found sorted → answer ≡ option_map_or (λ (x : Cut). same_cut x c) (slice_get view i) false → answer ≡ true
    → (x : Cut) → x ≡ c → Contains now x
there_already now found sorted view c i answer whose seen same is yes_so x e =
    subst (λ (l : List Cut). Contains l x) whose (subst (λ (y : Cut). Contains found y) (sym e)
    (Contains-permutation sorted found c (IsPermutation-sym found sorted same) (present c sorted i (subst (λ (l : List Cut). option_map_or (λ (x : Cut). same_cut x c) (slice_get l i) false ≡ true) seen (sym is ∙ yes_so)))))

-- whether or not there was memory
pub both_kept : (found new_found sorted new_sorted view : List Cut) (c : Cut) (i : ℕ) (answer : Bool) (r : Result (Unit {0}) AllocError) → OnOk r (new_found ≡ found ++ c ∷ []) → OnOk r (new_sorted ≡ insert sorted i c)
    → OnErr r (new_found ≡ found) → OnErr r (new_sorted ≡ sorted) → view ≡ sorted
    → AreDifferent sorted → IsPermutation found sorted → i ≤ length view → IsPartitionPoint (λ (x : Cut). cut_before x c ≡ true) (λ x. cut_before x c ≡ false) view i
    → answer ≡ option_map_or (λ (x : Cut). same_cut x c) (slice_get view i) false → answer ≡ false → AreDifferent new_sorted × IsPermutation new_found new_sorted
both_kept found new_found sorted new_sorted view c i answer (Ok u) at_end at_place same_found same_sorted seen different same few point is no_such =
    both_put found new_found sorted new_sorted view c i answer at_end at_place seen different same few point is no_such
both_kept found new_found sorted new_sorted view c i answer (Err e) at_end at_place same_found same_sorted seen different same few point is no_such = (
  subst (λ (l : List Cut). AreDifferent l) (sym same_sorted) different,
  subst (λ (l : List Cut). IsPermutation new_found l) (sym same_sorted) (subst (λ (l : List Cut). IsPermutation l sorted) (sym same_found) same),
)

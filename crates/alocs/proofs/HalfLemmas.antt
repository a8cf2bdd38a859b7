-- The list of a region, found by halves.
use Rattle.std.proofs.Common.{◌≡◌, ℕ, zero, suc, ◌+◌, ◌-◌, ◌<◌, ◌≤◌, Bool, true, false, ltb, cond, ◌⊎◌, inl, inr, ⊎_elim, Option, Some, None, List, [], ◌∷◌, length, get_or, refl, sym, subst, ap, ◌∙◌, arith}
use Rattle.std.specs.Prelude.{find, slice_get}
use Rattle.std.specs.List.Sorted.{IsPartitionedBy, IsPartitionPoint}
use Rattle.std.proofs.lemmas.Bool.{true≢false, ltb-true, ltb-false, cases_Bool}
use Rattle.std.proofs.lemmas.List.{get_or_default}
use Rattle.image_map.specs.declared.region.RegionId.{RegionId}
use Rattle.image_map.specs.Regions.{same_region, region_before}
use Rattle.image_map.specs.TotalOrders.{region_total}
use Rattle.image_map.proofs.OrderLaws.{same_region-equal, region_before-itself, region_before-trans}
use Rattle.image_map.proofs.OrderLemmas.{before-total}
use Rattle.alocs.specs.declared.cells.CutList.{CutList}
use Rattle.alocs.specs.Halves.{AreByRegion}

tail : (x : CutList) (xs : List CutList) → AreByRegion (x ∷ xs) → AreByRegion xs
tail x xs h k d lt = let e : suc k + 1 ≡ suc (k + 1) = omega arith in subst (λ (n : ℕ). region_before (get_or xs k d).region (get_or (x ∷ xs) n d).region ≡ true) e (h (suc k) d (omega arith))

before_all : (x : CutList) (xs : List CutList) → AreByRegion (x ∷ xs) → (j : ℕ) (d : CutList) → j < length xs → region_before x.region (get_or xs j d).region ≡ true
before_all x [] h j d lt = absurd (omega arith)
before_all x (y ∷ ys) h zero d lt = h 0 d (omega arith)
before_all x (y ∷ ys) h (suc j) d lt = region_before-trans x.region y.region (get_or ys j d).region (h 0 d (omega arith)) (before_all y ys (tail x (y ∷ ys) h) j d (omega arith))

pub regions_parted : (r : RegionId) (xs : List CutList) → AreByRegion xs → IsPartitionedBy (λ (l : CutList). region_before l.region r) xs
regions_parted r [] h = λ i j d le lt up. absurd (omega arith)
regions_parted r (x ∷ xs) h = go (regions_parted r xs (tail x xs h))
  where
    go : IsPartitionedBy (λ (l : CutList). region_before l.region r) xs → (i j : ℕ) (d : CutList) → i ≤ j → j < length (x ∷ xs) → region_before (get_or (x ∷ xs) j d).region r ≡ true → region_before (get_or (x ∷ xs) i d).region r ≡ true
    go f zero zero d le lt up = up
    go f zero (suc j) d le lt up = region_before-trans x.region (get_or xs j d).region r (before_all x xs h j d (omega arith)) up
    go f (suc i) zero d le lt up = absurd (omega arith)
    go f (suc i) (suc j) d le lt up = f i j d (omega arith) (omega arith) up

other : (a b : RegionId) → region_before a b ≡ true → same_region a b ≡ false
other a b h = ⊎_elim (λ (e : same_region a b ≡ true). absurd (true≢false (sym h ∙ subst (λ (q : RegionId). region_before a q ≡ false) (same_region-equal a b e) (region_before-itself a)))) (λ e. e) (cases_Bool (same_region a b))

other_way : (a b : RegionId) → region_before b a ≡ true → same_region a b ≡ false
other_way a b h = ⊎_elim (λ (e : same_region a b ≡ true). absurd (true≢false (sym h ∙ subst (λ (q : RegionId). region_before q a ≡ false) (same_region-equal a b e) (region_before-itself a)))) (λ e. e) (cases_Bool (same_region a b))

skips : (r : RegionId) (x : CutList) (xs : List CutList) → same_region x.region r ≡ false → find (λ (l : CutList). same_region l.region r) (x ∷ xs) ≡ find (λ (l : CutList). same_region l.region r) xs
skips r x xs h = ap (λ b. cond b (Some x) (find (λ (l : CutList). same_region l.region r) xs)) h

none_later : (r : RegionId) (x : CutList) (xs : List CutList) → AreByRegion (x ∷ xs) → region_before r x.region ≡ true → find (λ (l : CutList). same_region l.region r) xs ≡ None
none_later r x [] h b = refl
none_later r x (y ∷ ys) h b =
    let c = region_before-trans r x.region y.region b (h 0 y (omega arith)) in
    skips r y ys (other_way y.region r c) ∙ none_later r y ys (tail x (y ∷ ys) h) c

-- a list where it is of the region
abbrev pub kept : RegionId → Option CutList → Option CutList
kept r None = None
kept r (Some l) = cond (same_region l.region r) (Some l) None

pub found_by_halves : (r : RegionId) (xs : List CutList) (i : ℕ) → AreByRegion xs → i ≤ length xs → IsPartitionPoint (λ (l : CutList). region_before l.region r ≡ true) (λ l. region_before l.region r ≡ false) xs i
    → find (λ (l : CutList). same_region l.region r) xs ≡ kept r (slice_get xs i)
found_by_halves r [] zero h le p = refl
found_by_halves r [] (suc i) h le p = absurd (omega arith)
found_by_halves r (x ∷ xs) zero h le p = go (same_region x.region r) refl
  where
    go : (b : Bool) → same_region x.region r ≡ b → cond b (Some x) (find (λ (l : CutList). same_region l.region r) xs) ≡ cond b (Some x) None
    go true is = refl
    go false is = none_later r x xs h (before-total region_total x.region r is (p.1 0 x (omega arith) (omega arith)))
found_by_halves r (x ∷ xs) (suc i) h le p =
    skips r x xs (other x.region r (p.0 0 x (omega arith) (omega arith)))
    ∙ found_by_halves r xs i (tail x xs h) (omega arith) (λ k d q s. p.0 (suc k) d (omega arith) (omega arith), λ k d q s. p.1 (suc k) d (omega arith) (omega arith))

-- one more list stands behind the one before it
pub one_further : (lists : List CutList) (n : ℕ) (a b : CutList) (answer : Bool) → ((k : ℕ) (e : CutList) → k + 1 < n → region_before (get_or lists k e).region (get_or lists (k + 1) e).region ≡ true) → 1 ≤ n → n < length lists
    → answer ≡ region_before (get_or lists (n - 1) a).region (get_or lists n b).region → answer ≡ true → (k : ℕ) (e : CutList) → k + 1 < n + 1 → region_before (get_or lists k e).region (get_or lists (k + 1) e).region ≡ true
one_further lists n a b answer before some lt is told k e le =
    ⊎_elim (λ (q : k + 1 < n). before k e q)
    (λ (q : n ≤ k + 1).
    let p : n - 1 ≡ k = omega arith in
    let r : n ≡ k + 1 = omega arith in
    subst (λ (c : CutList). region_before (get_or lists k e).region c.region ≡ true) (ap (λ i. get_or lists i b) r ∙ get_or_default lists (k + 1) b e (omega arith))
    (subst (λ (c : CutList). region_before c.region (get_or lists n b).region ≡ true) (ap (λ i. get_or lists i a) p ∙ get_or_default lists k a e (omega arith)) (sym is ∙ told)))
    (less (k + 1) n)
  where
    less : (x y : ℕ) → (x < y) ⊎ (y ≤ x)
    less x y = ⊎_elim (λ h. inl (ltb-true x y h)) (λ h. inr (ltb-false x y h)) (cases_Bool (ltb x y))

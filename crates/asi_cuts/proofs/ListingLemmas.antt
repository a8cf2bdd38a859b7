-- Cuts in their order, listed region by region.
use Rattle.std.proofs.Common.{◌≡◌, ℕ, zero, suc, ◌+◌, ◌-◌, ◌<◌, ◌≤◌, ◌↔◌, Bool, true, false, cond, ◌⊎◌, inl, inr, ⊎_elim, ℤ, List, [], ◌∷◌, ◌++◌, length, take, drop, get_or, refl, sym, subst, ap, ◌∙◌, append_assoc, append-nil, arith}
use Rattle.std.specs.Prelude.{◌<ℤ◌, Contains}
use Rattle.std.specs.Ordering.{int_cmp, is_lt}
use Rattle.std.proofs.lemmas.Bool.{cond_both, true≢false, cases_Bool}
use Rattle.std.proofs.lemmas.List.{get_or_default, take_all, drop-drop}
use Rattle.std.proofs.lemmas.List.Elements.{Contains-append_left, Contains-push, Contains-push_cases}
use Rattle.image_map.specs.declared.region.RegionId.{RegionId}
use Rattle.image_map.specs.Regions.{region_cmp, same_region, region_before}
use Rattle.image_map.proofs.OrderLaws.{same_region-equal, same_region-itself, region_before-itself, region_before-trans}
use Rattle.image_map.proofs.OrderLemmas.{before-then, then-tied, int_before}
use Rattle.alocs.specs.declared.cells.CutList.{CutList}
use Rattle.alocs.specs.Cells.{RiseAbove, AreRising}
use Rattle.alocs.proofs.CellLemmas.{int_lt_true}
use Rattle.alocs.proofs.MemberLaws.{contains-cases, contains-head, contains-tail, contains-none}
use Rattle.asi_cuts.specs.declared.set.Cut.{Cut}
use Rattle.asi_cuts.specs.Closed.{cut_cmp, cut_before, RiseBehind, AreDifferent, ListsRiseBehind, ListsRise}
use Rattle.asi_cuts.specs.Cuts.{HasCut}
use Rattle.asi_cuts.specs.Listing.{AreListsOf, run}
use Rattle.asi_cuts.proofs.OrderLemmas.{rising_tail}

-- a cut stands before another by its region or, in one region, by its offset
before_parts : (a b : Cut) → cut_before a b ≡ true → (region_before a.region b.region ≡ true) ⊎ ((a.region ≡ b.region) × (a.offset <ℤ b.offset))
unfolding cut_cmp
before_parts a b h =
    ⊎_elim
    (λ (e : same_region a.region b.region ≡ true). inr (same_region-equal a.region b.region e, int_lt_true a.offset b.offset (sym (int_before a.offset b.offset) ∙ (ap is_lt (sym (then-tied (region_cmp a.region b.region) (int_cmp a.offset b.offset) e)) ∙ h))))
    (λ (e : same_region a.region b.region ≡ false). inl (before-then (region_cmp a.region b.region) (int_cmp a.offset b.offset) e ∙ h))
    (cases_Bool (same_region a.region b.region))

later_regions : (r : RegionId) (x : Cut) (xs : List Cut) → RiseBehind x xs → region_before r x.region ≡ true → (y : Cut) → Contains xs y → region_before r y.region ≡ true
later_regions r x [] h b y k = absurd (contains-none y k)
later_regions r x (z ∷ zs) h b y k =
    let next : region_before r z.region ≡ true = ⊎_elim (λ q. region_before-trans r x.region z.region b q) (λ q. subst (λ (s : RegionId). region_before r s ≡ true) q.0 b) (before_parts x z h.0) in
    ⊎_elim (λ (e : z ≡ y). subst (λ (c : Cut). region_before r c.region ≡ true) e next) (λ q. later_regions r z zs h.1 next y q) (contains-cases z zs y k)

-- what the first run of a region leaves
pub record Splits (r : RegionId) (xs : List Cut) (offsets : List ℤ) (rest : List Cut) : Type 0 where
  pub each : (y : Cut) → Contains xs y ↔ (((y.region ≡ r) × Contains offsets y.offset) ⊎ Contains rest y)
  pub later : (y : Cut) → Contains rest y → region_before r y.region ≡ true

none_yet : (r : RegionId) (xs : List Cut) → ((y : Cut) → Contains xs y → region_before r y.region ≡ true) → Splits r xs [] xs
none_yet r xs later = record { each = λ y. (λ k. inr k, λ k. ⊎_elim (λ q. absurd (contains-none y.offset q.1)) (λ q. q) k); later = later }

same_parts : (a b : Cut) → a.region ≡ b.region → a.offset ≡ b.offset → a ≡ b
same_parts a b p q = λ i. record { region = p i; offset = q i }

one_more : (r : RegionId) (x : Cut) (xs : List Cut) (offsets : List ℤ) (rest : List Cut) → x.region ≡ r → Splits r xs offsets rest → Splits r (x ∷ xs) (x.offset ∷ offsets) rest
one_more r x xs offsets rest here s = record {
  each = λ y. (
    λ k. ⊎_elim (λ (e : x ≡ y). inl (sym (ap (λ (c : Cut). c.region) e) ∙ here, subst (λ (c : Cut). Contains (x.offset ∷ offsets) c.offset) e (contains-head x.offset offsets)))
        (λ q. ⊎_elim (λ p. inl (p.0, contains-tail x.offset offsets y.offset p.1)) (λ p. inr p) ((s.each y).0 q)) (contains-cases x xs y k),
    λ k. ⊎_elim (λ p. ⊎_elim (λ (e : x.offset ≡ y.offset). subst (λ (c : Cut). Contains (x ∷ xs) c) (same_parts x y (here ∙ sym p.0) e) (contains-head x xs))
        (λ q. contains-tail x xs y ((s.each y).1 (inl (p.0, q)))) (contains-cases x.offset offsets y.offset p.1))
        (λ p. contains-tail x xs y ((s.each y).1 (inr p))) k,
  );
  later = s.later;
}

higher : (low x : Cut) (r : RegionId) → low.region ≡ r → x.region ≡ r → cut_before low x ≡ true → low.offset <ℤ x.offset
higher low x r at here h =
    ⊎_elim (λ (q : region_before low.region x.region ≡ true).
    let p : region_before x.region x.region ≡ true = subst (λ (s : RegionId). region_before s x.region ≡ true) (at ∙ sym here) q in
    absurd (true≢false (sym p ∙ region_before-itself x.region)))
    (λ q. q.1) (before_parts low x h)

further : (low x : Cut) (r : RegionId) → low.region ≡ r → same_region x.region r ≡ false → cut_before low x ≡ true → region_before r x.region ≡ true
further low x r at other h =
    ⊎_elim (λ (q : region_before low.region x.region ≡ true). subst (λ (s : RegionId). region_before s x.region ≡ true) at q)
    (λ q.
    let p : same_region x.region r ≡ true = subst (λ (s : RegionId). same_region s r ≡ true) (sym at ∙ q.0) (same_region-itself r) in
    absurd (true≢false (sym p ∙ other)))
    (before_parts low x h)

split : (r : RegionId) (low : Cut) (xs : List Cut) → RiseBehind low xs → low.region ≡ r → RiseAbove low.offset (run r xs) × Splits r xs (run r xs) (drop (length (run r xs)) xs)
split r low [] h at = (tt, none_yet r [] (λ y k. absurd (contains-none y k)))
split r low (x ∷ xs) h at = go (same_region x.region r) refl (λ e. split r x xs h.1 e)
  where
    go : (b : Bool) → same_region x.region r ≡ b → (x.region ≡ r → RiseAbove x.offset (run r xs) × Splits r xs (run r xs) (drop (length (run r xs)) xs))
        → RiseAbove low.offset (cond b (x.offset ∷ run r xs) []) × Splits r (x ∷ xs) (cond b (x.offset ∷ run r xs) []) (drop (length (cond b (x.offset ∷ run r xs) [])) (x ∷ xs))
    go true is f =
        let here : x.region ≡ r = same_region-equal x.region r is in
        let rest = f here in
        ((higher low x r at here h.0, rest.0), one_more r x xs (run r xs) (drop (length (run r xs)) xs) here rest.1)
    go false is f =
        let next = further low x r at is h.0 in
        (tt, none_yet r (x ∷ xs) (λ y k. ⊎_elim (λ (e : x ≡ y). subst (λ (c : Cut). region_before r c.region ≡ true) e next) (λ q. later_regions r x xs h.1 next y q) (contains-cases x xs y k)))

-- the run with which different cuts begin
pub first_run : (x : Cut) (xs : List Cut) → RiseBehind x xs → AreRising (run x.region (x ∷ xs)) × (0 < length (run x.region (x ∷ xs))) × Splits x.region (x ∷ xs) (run x.region (x ∷ xs)) (drop (length (run x.region (x ∷ xs))) (x ∷ xs))
first_run x xs h = go (same_region x.region x.region) (same_region-itself x.region) (split x.region x xs h refl)
  where
    go : (b : Bool) → b ≡ true → RiseAbove x.offset (run x.region xs) × Splits x.region xs (run x.region xs) (drop (length (run x.region xs)) xs)
        → AreRising (cond b (x.offset ∷ run x.region xs) []) × (0 < length (cond b (x.offset ∷ run x.region xs) [])) × Splits x.region (x ∷ xs) (cond b (x.offset ∷ run x.region xs) []) (drop (length (cond b (x.offset ∷ run x.region xs) [])) (x ∷ xs))
    go true is s = (s.0, omega arith, one_more x.region x xs (run x.region xs) (drop (length (run x.region xs)) xs) refl s.1)
    go false is s = absurd (true≢false (sym is))

-- ---- the lists so far

pub record Listed (cuts : List Cut) (n : ℕ) (lists : List CutList) : Type 0 where
  pub within : n ≤ length cuts
  pub rise : ListsRise lists
  pub some : (l : CutList) → Contains lists l → 0 < length l.cuts
  pub before : (l : CutList) → Contains lists l → (x : Cut) → Contains (drop n cuts) x → region_before l.region x.region ≡ true
  pub each : (x : Cut) → (HasCut lists x.region x.offset ⊎ Contains (drop n cuts) x) ↔ Contains cuts x

behind_push : (low : RegionId) (ls : List CutList) (l : CutList) → ListsRiseBehind low ls → region_before low l.region ≡ true → ((k : CutList) → Contains ls k → region_before k.region l.region ≡ true) → AreRising l.cuts → ListsRiseBehind low (ls ++ l ∷ [])
behind_push low [] l h b all up = (b, up, tt)
behind_push low (k ∷ ks) l h b all up = (h.0, h.1, behind_push k.region ks l h.2 (all k (contains-head k ks)) (λ j p. all j (contains-tail k ks j p)) up)

rise_push : (ls : List CutList) (l : CutList) → ListsRise ls → ((k : CutList) → Contains ls k → region_before k.region l.region ≡ true) → AreRising l.cuts → ListsRise (ls ++ l ∷ [])
rise_push [] l h all up = (up, tt)
rise_push (k ∷ ks) l h all up = (h.0, behind_push k.region ks l h.1 (all k (contains-head k ks)) (λ j p. all j (contains-tail k ks j p)) up)

different_drop : (n : ℕ) (xs : List Cut) → AreDifferent xs → AreDifferent (drop n xs)
different_drop zero xs h = h
different_drop (suc n) [] h = tt
different_drop (suc n) (x ∷ xs) h = different_drop n xs (rising_tail x xs h)

pub drop_at : (xs : List Cut) (i : ℕ) (x : Cut) → i < length xs → x ≡ get_or xs i x → drop i xs ≡ x ∷ drop (i + 1) xs
drop_at [] i x lt is = absurd (omega arith)
drop_at (y ∷ ys) zero x lt is = ap (λ c. c ∷ ys) (sym is)
drop_at (y ∷ ys) (suc i) x lt is = let e : suc i + 1 ≡ suc (i + 1) = omega arith in rw e (drop_at ys i x (omega arith) is)

fits_run : (r : RegionId) (xs : List Cut) → length (run r xs) ≤ length xs
fits_run r [] = omega arith
fits_run r (x ∷ xs) = cond_both (same_region x.region r) (x.offset ∷ run r xs) [] (λ l. length l ≤ suc (length xs)) (λ _. let h = fits_run r xs in omega arith) (λ _. omega arith)

length_drop : {X : Type 0} (n : ℕ) (xs : List X) → n ≤ length xs → length (drop n xs) + n ≡ length xs
length_drop zero xs le = omega arith
length_drop (suc n) [] le = absurd (omega arith)
length_drop (suc n) (x ∷ xs) le = let h = length_drop n xs (omega arith) in omega arith

pub listed_none : (cuts : List Cut) (lists : List CutList) → lists ≡ [] → Listed cuts 0 lists
listed_none cuts lists none = subst (λ (l : List CutList). Listed cuts 0 l) (sym none) (record {
  within = omega arith;
  rise = tt;
  some = λ l h. absurd (contains-none l h);
  before = λ l h. absurd (contains-none l h);
  each = λ x. (λ h. ⊎_elim (λ k. absurd (contains-none k.0 k.1)) (λ k. k) h, λ h. inr h);
})

pub listed_more : (cuts : List Cut) (n : ℕ) (x : Cut) (offsets : List ℤ) (lists new : List CutList) → AreDifferent cuts → n < length cuts → x ≡ get_or cuts n x → offsets ≡ run x.region (drop n cuts)
    → new ≡ lists ++ record { region = x.region; cuts = offsets } ∷ [] → Listed cuts n lists → Listed cuts (n + length offsets) new × (0 < length offsets)
listed_more cuts n x offsets lists new different lt at is made l =
    subst (λ (ls : List CutList). Listed cuts (n + length offsets) ls × (0 < length offsets)) (sym made) (
      record {
        within = (let f = fits_run x.region (drop n cuts) in let e : length offsets ≡ length (run x.region (drop n cuts)) = ap length is in let d = length_drop n cuts (omega arith) in omega arith);
        rise = rise_push lists here l.rise (λ k h. l.before k h x first) (subst (λ (os : List ℤ). AreRising os) (sym is) parts.0);
        some = λ k h. ⊎_elim (λ q. l.some k q) (λ (q : here ≡ k). subst (λ (c : CutList). 0 < length c.cuts) q full) (Contains-push_cases lists here k h);
        before = λ k h y p. ⊎_elim (λ q. l.before k q y (wider y p)) (λ (q : here ≡ k). subst (λ (c : CutList). region_before c.region y.region ≡ true) q (parts.2.later y (subst (λ (ys : List Cut). Contains ys y) (sym rest) p))) (Contains-push_cases lists here k h);
        each = λ y. (
          λ h. (l.each y).0 (⊎_elim (λ q. ⊎_elim (λ p. inl p) (λ p. inr ((parts.2.each y).1 (inl (p.0, subst (λ (os : List ℤ). Contains os y.offset) is p.1)))) (has_cases y q)) (λ q. inr (wider y q)) h),
          λ h. ⊎_elim (λ q. inl (q.0, Contains-append_left lists (here ∷ []) q.0 q.1, q.2, q.3))
              (λ q. ⊎_elim (λ p. inl (here, Contains-push lists here, p.0, subst (λ (os : List ℤ). Contains os y.offset) (sym is) p.1)) (λ p. inr (subst (λ (ys : List Cut). Contains ys y) rest p)) ((parts.2.each y).0 q)) ((l.each y).1 h),
        );
      },
      full,
    )
  where
    here : CutList
    here = record { region = x.region; cuts = offsets }

    begins : drop n cuts ≡ x ∷ drop (n + 1) cuts
    begins = drop_at cuts n x lt at

    behind : RiseBehind x (drop (n + 1) cuts)
    behind = subst (λ (ys : List Cut). AreDifferent ys) begins (different_drop n cuts different)

    parts : AreRising (run x.region (drop n cuts)) × (0 < length (run x.region (drop n cuts))) × Splits x.region (drop n cuts) (run x.region (drop n cuts)) (drop (length (run x.region (drop n cuts))) (drop n cuts))
    parts = subst (λ (ys : List Cut). AreRising (run x.region ys) × (0 < length (run x.region ys)) × Splits x.region ys (run x.region ys) (drop (length (run x.region ys)) ys)) (sym begins) (first_run x (drop (n + 1) cuts) behind)

    full : 0 < length offsets
    full = subst (λ (os : List ℤ). 0 < length os) (sym is) parts.1

    first : Contains (drop n cuts) x
    first = subst (λ (ys : List Cut). Contains ys x) (sym begins) (contains-head x (drop (n + 1) cuts))

    rest : drop (length (run x.region (drop n cuts))) (drop n cuts) ≡ drop (n + length offsets) cuts
    rest = drop-drop (length (run x.region (drop n cuts))) n cuts ∙ ap (λ (os : List ℤ). drop (n + length os) cuts) (sym is)

    wider : (y : Cut) → Contains (drop (n + length offsets) cuts) y → Contains (drop n cuts) y
    wider y p = (parts.2.each y).1 (inr (subst (λ (ys : List Cut). Contains ys y) (sym rest) p))

    has_cases : (y : Cut) → HasCut (lists ++ here ∷ []) y.region y.offset → HasCut lists y.region y.offset ⊎ ((y.region ≡ x.region) × Contains offsets y.offset)
    has_cases y q = ⊎_elim (λ p. inl (q.0, p, q.2, q.3)) (λ (p : here ≡ q.0). inr (q.2 ∙ sym (ap (λ (c : CutList). c.region) p), subst (λ (c : CutList). Contains c.cuts y.offset) (sym p) q.3)) (Contains-push_cases lists here q.0 q.1)

drop_all : {X : Type 0} (n : ℕ) (xs : List X) → length xs ≤ n → drop n xs ≡ []
drop_all zero [] le = refl
drop_all zero (x ∷ xs) le = absurd (omega arith)
drop_all (suc n) [] le = refl
drop_all (suc n) (x ∷ xs) le = drop_all n xs (omega arith)

pub listed_all : (cuts : List Cut) (n : ℕ) (lists : List CutList) → length cuts ≤ n → Listed cuts n lists → AreListsOf cuts lists
listed_all cuts n lists le l = record {
  rise = l.rise;
  some = l.some;
  each = λ x. (λ h. (l.each x).0 (inl h), λ h. ⊎_elim (λ q. q) (λ q. absurd (contains-none x (subst (λ (ys : List Cut). Contains ys x) (drop_all n cuts le) q))) ((l.each x).1 h));
}

-- ---- one run

pub run_more : (r : RegionId) (cuts : List Cut) (i : ℕ) (x : Cut) (offset : ℤ) (items new : List ℤ) → i < length cuts → x ≡ get_or cuts i x → true ≡ same_region x.region r → offset ≡ x.offset → new ≡ items ++ offset ∷ []
    → items ++ run r (drop i cuts) ≡ run r cuts → new ++ run r (drop (i + 1) cuts) ≡ run r cuts
run_more r cuts i x offset items new lt at same is made inv =
    let begins = drop_at cuts i x lt at in
    let here : run r (drop i cuts) ≡ x.offset ∷ run r (drop (i + 1) cuts) = ap (run r) begins ∙ ap (λ b. cond b (x.offset ∷ run r (drop (i + 1) cuts)) []) (sym same) in
    rw (made, is) (append_assoc items (x.offset ∷ []) (run r (drop (i + 1) cuts)) ∙ (ap (λ l. items ++ l) (sym here) ∙ inv))

pub run_ends : (r : RegionId) (cuts : List Cut) (i : ℕ) (x : Cut) (items : List ℤ) → i < length cuts → x ≡ get_or cuts i x → false ≡ same_region x.region r → items ++ run r (drop i cuts) ≡ run r cuts → items ≡ run r cuts
run_ends r cuts i x items lt at other inv =
    let begins = drop_at cuts i x lt at in
    let here : run r (drop i cuts) ≡ [] = ap (run r) begins ∙ ap (λ b. cond b (x.offset ∷ run r (drop (i + 1) cuts)) []) (sym other) in
    sym (append-nil items) ∙ (ap (λ l. items ++ l) (sym here) ∙ inv)

pub run_all : (r : RegionId) (cuts : List Cut) (i : ℕ) (items : List ℤ) → length cuts ≤ i → items ++ run r (drop i cuts) ≡ run r cuts → items ≡ run r cuts
run_all r cuts i items le inv = sym (append-nil items) ∙ (ap (λ l. items ++ run r l) (sym (drop_all i cuts le)) ∙ inv)

-- the same in what the code reads
pub listed_next : (cuts : List Cut) (n : ℕ) (d : Cut) (offsets : List ℤ) (lists new : List CutList) → AreDifferent cuts → n < length cuts → offsets ≡ run (get_or cuts n d).region (take (length cuts - n) (drop n cuts))
    → new ≡ lists ++ record { region = (get_or cuts n d).region; cuts = offsets } ∷ [] → Listed cuts n lists → Listed cuts (n + length offsets) new × (0 < length offsets)
listed_next cuts n d offsets lists new different lt is made l =
    listed_more cuts n (get_or cuts n d) offsets lists new different lt (get_or_default cuts n d (get_or cuts n d) lt) (is ∙ ap (run (get_or cuts n d).region) (take_all (length cuts - n) (drop n cuts) (let e = length_drop n cuts (omega arith) in omega arith))) made l

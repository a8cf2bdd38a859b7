-- The extents of an image's segments.
use Rattle.std.proofs.Common.{◌≡◌, ℕ, zero, suc, ◌+◌, ◌<◌, ◌≤◌, ◌⊎◌, inl, inr, ⊎_elim, ℤ, pos, true, false, List, [], ◌∷◌, ◌++◌, length, take, get_or, sym, subst, ap, ◌∙◌, arith}
use Rattle.std.specs.Prelude.{◌≤ℤ◌, ◌<ℤ◌, ◌↔◌, int_lt, Contains}
use Rattle.std.specs.List.{insert}
use Rattle.std.specs.List.Sorted.{IsPartitionedBy, IsPartitionPoint}
use Rattle.std.proofs.lemmas.Int.{ints}
use Rattle.std.proofs.lemmas.List.{take_more, take_all}
use Rattle.std.proofs.lemmas.List.Elements.{Contains-append_left, Contains-push, Contains-push_cases}
use Rattle.std.proofs.lemmas.List.Sorted.{IsPermutation-insert, IsPermutation-sym, Contains-permutation}
use Rattle.image_map.specs.declared.image.Segment.{Segment}
use Rattle.image_map.specs.Whole.{end_of, AreApart, IsApartFrom, IsPlaced, ArePlaced}
use Rattle.alocs.specs.declared.extents.Extent.{Extent}
use Rattle.alocs.specs.Extents.{RiseFrom, Takes, AreOfImage}
use Rattle.alocs.specs.Halves.{IsClearOf}
use Rattle.alocs.proofs.MemberLaws.{contains-cases, contains-head, contains-tail, contains-none}
use Rattle.alocs.proofs.CellLemmas.{int_lt_true, int_lt_false, lt_int_lt}

-- ---- an extent put in

starts_above : (low : ℤ) (xs : List Extent) (k : ℕ) (d : Extent) → RiseFrom low xs → k < length xs → low ≤ℤ (get_or xs k d).start
starts_above low [] k d h lt = absurd (omega arith)
starts_above low (x ∷ xs) zero d h lt = h.0
starts_above low (x ∷ xs) (suc k) d h lt = let p = h.0 in let q = h.1 in let r = starts_above x.end xs k d h.2 (omega arith) in omega (arith, ints)

starts_rise : (low : ℤ) (xs : List Extent) → RiseFrom low xs → (i j : ℕ) (d : Extent) → i ≤ j → j < length xs → (get_or xs i d).start ≤ℤ (get_or xs j d).start
starts_rise low [] h i j d le lt = absurd (omega arith)
starts_rise low (x ∷ xs) h zero zero d le lt = omega (arith, ints)
starts_rise low (x ∷ xs) h zero (suc j) d le lt = let q = h.1 in let r = starts_above x.end xs j d h.2 (omega arith) in omega (arith, ints)
starts_rise low (x ∷ xs) h (suc i) zero d le lt = absurd (omega arith)
starts_rise low (x ∷ xs) h (suc i) (suc j) d le lt = starts_rise x.end xs h.2 i j d (omega arith) (omega arith)

pub starts_parted : (low at : ℤ) (xs : List Extent) → RiseFrom low xs → IsPartitionedBy (λ (x : Extent). int_lt x.start at) xs
starts_parted low at xs h = λ i j d le lt up.
    let q : (get_or xs j d).start <ℤ at = int_lt_true (get_or xs j d).start at up in
    let r = starts_rise low xs h i j d le lt in
    lt_int_lt (get_or xs i d).start at (omega (arith, ints))

-- an extent that shares no offset with another
abbrev pub IsClear : Extent → Extent → Type 0
IsClear x y = (y.end ≤ℤ x.start) ⊎ (x.end ≤ℤ y.start)

pub placed_rise : (low : ℤ) (xs : List Extent) (i : ℕ) (x : Extent) → RiseFrom low xs → low ≤ℤ x.start → x.start <ℤ x.end → ((y : Extent) → Contains xs y → IsClear x y) → i ≤ length xs
    → IsPartitionPoint (λ (y : Extent). int_lt y.start x.start ≡ true) (λ y. int_lt y.start x.start ≡ false) xs i → RiseFrom low (insert xs i x)
placed_rise low [] zero x h le lt clear few p = (le, lt, tt)
placed_rise low [] (suc i) x h le lt clear few p = absurd (omega arith)
placed_rise low (y ∷ ys) zero x h le lt clear few p =
    let some = h.1 in
    let above : x.start ≤ℤ y.start = int_lt_false y.start x.start (p.1 0 y (omega arith) (omega arith)) in
    let past : x.end ≤ℤ y.start = ⊎_elim (λ (q : y.end ≤ℤ x.start). absurd (omega (arith, ints))) (λ (q : x.end ≤ℤ y.start). q) (clear y (contains-head y ys)) in
    (le, lt, (past, h.1, h.2))
placed_rise low (y ∷ ys) (suc i) x h le lt clear few p =
    let below : y.start <ℤ x.start = int_lt_true y.start x.start (p.0 0 y (omega arith) (omega arith)) in
    let past : y.end ≤ℤ x.start = ⊎_elim (λ (q : y.end ≤ℤ x.start). q) (λ (q : x.end ≤ℤ y.start). absurd (omega (arith, ints))) (clear y (contains-head y ys)) in (
      h.0,
      h.1,
      placed_rise y.end ys i x h.2 past lt (λ z k. clear z (contains-tail y ys z k)) (omega arith)
          (λ k d q r. p.0 (suc k) d (omega arith) (omega arith), λ k d q r. p.1 (suc k) d (omega arith) (omega arith)),
    )

pub placed_each : (xs new : List Extent) (i : ℕ) (x : Extent) (s : Segment) → new ≡ insert xs i x → 0 < length s.bytes → x.start ≡ pos s.start → x.end ≡ pos (end_of s)
    → (z : Extent) → Contains new z ↔ (Contains xs z ⊎ Takes s z)
placed_each xs new i x s is some start end z =
    subst (λ (l : List Extent). Contains l z ↔ (Contains xs z ⊎ Takes s z)) (sym is) (
      λ h. ⊎_elim (λ (q : x ≡ z). inr (subst (λ (e : Extent). Takes s e) q taken)) (λ q. inl q)
          (contains-cases x xs z (Contains-permutation (insert xs i x) (x ∷ xs) z (IsPermutation-sym (x ∷ xs) (insert xs i x) (IsPermutation-insert xs i x)) h)),
      λ h. Contains-permutation (x ∷ xs) (insert xs i x) z (IsPermutation-insert xs i x)
          (⊎_elim (λ q. contains-tail x xs z q) (λ (t : Takes s z). subst (λ (e : Extent). Contains (x ∷ xs) e) (same t) (contains-head x xs)) h),
    )
  where
    taken : Takes s x
    taken = record { bytes = some; start = start; end = end }

    same : Takes s z → x ≡ z
    same t =
        let p : x.start ≡ z.start = start ∙ sym t.start in
        let q : x.end ≡ z.end = end ∙ sym t.end in
        λ i. record { start = p i; end = q i }

-- ---- the segments one by one

pub placed_at : (ss : List Segment) (i : ℕ) (s : Segment) → ArePlaced ss → i < length ss → s ≡ get_or ss i s → IsPlaced s
placed_at [] i s h lt is = absurd (omega arith)
placed_at (t ∷ ts) zero s h lt is = subst (λ (x : Segment). IsPlaced x) (sym is) h.0
placed_at (t ∷ ts) (suc i) s h lt is = placed_at ts i s h.2 (omega arith) is

apart_from : (ss : List Segment) (i : ℕ) (s t : Segment) → IsApartFrom ss t → i < length ss → s ≡ get_or ss i s → AreApart t s
apart_from [] i s t h lt is = absurd (omega arith)
apart_from (x ∷ xs) zero s t h lt is = subst (λ (y : Segment). AreApart t y) (sym is) (⊎_elim (λ q. inr q) (λ q. inl q) h.0)
apart_from (x ∷ xs) (suc i) s t h lt is = apart_from xs i s t h.1 (omega arith) is

apart_at : (ss : List Segment) (i : ℕ) (s t : Segment) → ArePlaced ss → i < length ss → s ≡ get_or ss i s → Contains (take i ss) t → AreApart t s
apart_at [] i s t h lt is k = absurd (omega arith)
apart_at (x ∷ xs) zero s t h lt is k = absurd (contains-none t k)
apart_at (x ∷ xs) (suc i) s t h lt is k =
    ⊎_elim (λ (e : x ≡ t). subst (λ (y : Segment). AreApart y s) e (apart_from xs i s x h.1 (omega arith) is)) (λ q. apart_at xs i s t h.2 (omega arith) is q)
    (contains-cases x (take i xs) t k)

-- the extents of the segments so far
pub record OfFirst (ss : List Segment) (i : ℕ) (xs : List Extent) : Type 0 where
  pub rise : RiseFrom (pos 0) xs
  pub each : (x : Extent) → Contains xs x ↔ ((s : Segment) × Contains (take i ss) s × Takes s x)

pub clear_at : (ss : List Segment) (i : ℕ) (xs : List Extent) (s : Segment) → ArePlaced ss → OfFirst ss i xs → i < length ss → s ≡ get_or ss i s → (x : Extent) → Contains xs x → IsClearOf s x
clear_at ss i xs s h o lt is x k =
    let t = (o.each x).0 k in
    let start = t.2.start in
    let end = t.2.end in
    ⊎_elim (λ (q : end_of t.0 ≤ s.start). inl (omega (arith, ints))) (λ (q : end_of s ≤ t.0.start). inr (omega (arith, ints))) (apart_at ss i s t.0 h lt is t.1)

pub first_none : (ss : List Segment) (xs : List Extent) → xs ≡ [] → OfFirst ss 0 xs
first_none ss xs none = subst (λ (l : List Extent). OfFirst ss 0 l) (sym none) (record {
  rise = tt;
  each = λ x. (λ h. absurd (contains-none x h), λ h. absurd (contains-none h.0 h.1));
})

pub first_more : (ss : List Segment) (i : ℕ) (xs new : List Extent) (s : Segment) → i < length ss → s ≡ get_or ss i s → OfFirst ss i xs → RiseFrom (pos 0) new
    → ((x : Extent) → Contains new x ↔ (Contains xs x ⊎ Takes s x)) → OfFirst ss (i + 1) new
first_more ss i xs new s lt is o rise each = record {
  rise = rise;
  each = λ x. (
    λ h. ⊎_elim (λ q. let t = (o.each x).0 q in (t.0, wider t.0 t.1, t.2)) (λ q. (s, subst (λ (l : List Segment). Contains l s) (sym all) (Contains-push (take i ss) s), q)) ((each x).0 h),
    λ h. (each x).1 (⊎_elim (λ q. inl ((o.each x).1 (h.0, q, h.2))) (λ (q : s ≡ h.0). inr (subst (λ (t : Segment). Takes t x) (sym q) h.2))
        (Contains-push_cases (take i ss) s h.0 (subst (λ (l : List Segment). Contains l h.0) all h.1))),
  );
} where
  all : take (i + 1) ss ≡ take i ss ++ s ∷ []
  all = take_more ss i s lt ∙ ap (λ t. take i ss ++ t ∷ []) (sym is)

  wider : (t : Segment) → Contains (take i ss) t → Contains (take (i + 1) ss) t
  wider t h = subst (λ (l : List Segment). Contains l t) (sym all) (Contains-append_left (take i ss) (s ∷ []) t h)

pub first_all : (ss : List Segment) (i : ℕ) (xs : List Extent) → length ss ≤ i → OfFirst ss i xs → AreOfImage ss xs
first_all ss i xs le o = record {
  rise = o.rise;
  each = λ x. subst (λ (l : List Segment). Contains xs x ↔ ((s : Segment) × Contains l s × Takes s x)) (take_all i ss le) (o.each x);
}

-- ---- what a call has found

pub placed_in : (xs view new : List Extent) (i : ℕ) (x : Extent) (s : Segment) {at : ℤ} → new ≡ insert xs i x
    → IsPartitionPoint (λ (y : Extent). int_lt y.start at ≡ true) (λ y. int_lt y.start at ≡ false) view i → view ≡ xs → i ≤ length view → at ≡ x.start
    → x.start ≡ pos s.start → x.end ≡ pos (end_of s) → 0 < length s.bytes → ((y : Extent) → Contains xs y → IsClearOf s y) → RiseFrom (pos 0) xs → RiseFrom (pos 0) new
placed_in xs view new i x s {at} is p seen few same start end some clear h =
    let point = subst (λ (a : ℤ). IsPartitionPoint (λ (y : Extent). int_lt y.start a ≡ true) (λ y. int_lt y.start a ≡ false) xs i) same
    (subst (λ (l : List Extent). IsPartitionPoint (λ (y : Extent). int_lt y.start at ≡ true) (λ y. int_lt y.start at ≡ false) l i) seen p) in
    subst (λ (l : List Extent). RiseFrom (pos 0) l) (sym is)
    (placed_rise (pos 0) xs i x h (omega (arith, ints)) (omega (arith, ints))
    (λ y k. ⊎_elim (λ (q : y.end ≤ℤ pos s.start). inl (omega (arith, ints))) (λ (q : pos (end_of s) ≤ℤ y.start). inr (omega (arith, ints))) (clear y k))
    (subst (λ (l : List Extent). i ≤ length l) seen few) point)

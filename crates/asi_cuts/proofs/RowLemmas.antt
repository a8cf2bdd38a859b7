-- The numbers of a row's offsets, and how an element's cut is repeated.
use Rattle.std.proofs.Common.{◌≡◌, ℕ, ◌+◌, ◌-◌, ◌*◌, ◌/◌, ◌%◌, ◌<◌, ◌≤◌, ◌↔◌, eqb, ltb, ◌⊎◌, inl, inr, ⊎_elim, ℤ, pos, ◌+ℤ◌, ap, ◌∙◌, eqb-true, arith}
use Rattle.std.specs.Prelude.{◌≤ℤ◌, ◌<ℤ◌}
use Rattle.std.proofs.Math.Nat.{le-div_iff_mul-le, mod-lt}
use Rattle.std.proofs.lemmas.Bool.{cond_both, ltb-true, ltb-false, cases_Bool}
use Rattle.std.proofs.lemmas.Int.{ints}
use Rattle.std.proofs.lemmas.Nat.{div-add-mod'}
use native.Mathlib.Nat.{add-mul-mod_self_right, add-mul-div_right, mod-eq_of_lt, div-eq_of_lt}
use Rattle.strided.proofs.MemberLemmas.{int_either}
use Rattle.asi_cuts.specs.Cuts.{element, reach, IsRepeated}

pub steps_some : (from to : ℤ) (g s n k : ℕ) → 1 ≤ s → to ≡ from +ℤ pos g → n ≡ g / s + 1 → ((from +ℤ pos (k * s)) ≤ℤ to) ↔ (k < n)
steps_some from to g s n k some at is = (
  λ h. let q : k ≤ g / s = (le-div_iff_mul-le (omega arith)).1 (omega (arith, ints)) in omega arith,
  λ h. let q : k * s ≤ g = (le-div_iff_mul-le (omega arith)).0 (omega arith) in omega (arith, ints),
)

pub lt_or_ge : (a b : ℕ) → (a < b) ⊎ (b ≤ a)
lt_or_ge a b = ⊎_elim (λ e. inl (ltb-true a b e)) (λ e. inr (ltb-false a b e)) (cases_Bool (ltb a b))

-- how far an element reaches, by whether it is the last
reach_both : (stride count len k : ℕ) (P : ℕ → Type 0) → (k + 1 ≡ count → P len) → ((k + 1 ≡ count → ⊥) → P stride) → P (reach stride count len k)
reach_both stride count len k P last other =
    cond_both (eqb (k + 1) count) len stride P (λ e. last (eqb-true (k + 1) count e)) (λ e. other (λ q. absurd (grind arith)))

-- of two elements that reach as far as a stride or farther, each is the last
last_both : (stride count len d f t : ℕ) → stride ≤ d → d < reach stride count len f → d < reach stride count len t → f ≡ t
last_both stride count len d f t le a b =
    let p : f + 1 ≡ count = is_last f a in let q : t + 1 ≡ count = is_last t b in omega arith
  where
    is_last : (k : ℕ) → d < reach stride count len k → k + 1 ≡ count
    is_last k h = reach_both stride count len k (λ r. d < r → k + 1 ≡ count) (λ e _. e) (λ _ lt. absurd (omega arith)) h

-- how far an offset lies above a start, or 0
abbrev pub IsDistance : ℤ → ℤ → ℕ → Type 0
IsDistance start offset n = (start ≤ℤ offset → offset ≡ start +ℤ pos n) × (offset <ℤ start → n ≡ 0)

-- how many elements reach past a distance
abbrev pub AreReaching : ℕ → ℕ → ℕ → ℕ → Type 0
AreReaching count len distance n = (distance < len → n ≡ count) × (len ≤ distance → n ≡ count - 1)

pub repeated_from : (start cut o : ℤ) (stride count len inside reaching k : ℕ) → 1 ≤ stride → IsDistance start cut inside → 0 < inside % stride → inside / stride < reaching → AreReaching count len (inside % stride) reaching
    → k < reaching → o ≡ element start stride k +ℤ pos (inside % stride) → IsRepeated start stride count len cut o
repeated_from start cut o stride count len inside reaching k some at more low r lt is = record {
  from = inside / stride;
  to = k;
  distance = inside % stride;
  from_counts = let m = most in omega arith;
  to_counts = let m = most in omega arith;
  inside = more;
  from_reaches = reaches (inside / stride) low;
  to_reaches = reaches k lt;
  at = let e : inside / stride * stride + inside % stride ≡ inside = div-add-mod' inside stride in let a = there in omega (arith, ints);
  is = is;
} where
  there : cut ≡ start +ℤ pos inside
  there = ⊎_elim (λ (h : start ≤ℤ cut). at.0 h) (λ (h : cut <ℤ start). let e = at.1 h in let s : inside / stride * stride + inside % stride ≡ inside = div-add-mod' inside stride in absurd (omega arith)) (int_either start cut)

  either : (inside % stride < len) ⊎ (len ≤ inside % stride)
  either = lt_or_ge (inside % stride) len

  most : reaching ≤ count
  most = ⊎_elim (λ h. let e = r.0 h in omega arith) (λ h. let e = r.1 h in omega arith) either

  reaches : (j : ℕ) → j < reaching → inside % stride < reach stride count len j
  reaches j h =
      reach_both stride count len j (λ n. inside % stride < n)
      (λ e. ⊎_elim (λ (q : inside % stride < len). q) (λ (q : len ≤ inside % stride). let m = r.1 q in absurd (omega arith)) either)
      (λ _. mod-lt inside (omega arith))

-- what is repeated is the cut itself, or it stands as far inside an element that reaches past it
pub repeated_case : (start cut o : ℤ) (stride count len inside reaching : ℕ) → IsDistance start cut inside → AreReaching count len (inside % stride) reaching → IsRepeated start stride count len cut o
    → ((0 < inside % stride) × (inside / stride < reaching) × ((k : ℕ) × (k < reaching) × (o ≡ element start stride k +ℤ pos (inside % stride)))) ⊎ (o ≡ cut)
repeated_case start cut o stride count len inside reaching at r m =
    ⊎_elim
    (λ (le : stride ≤ m.distance).
    let same : m.from ≡ m.to = last_both stride count len m.distance m.from m.to le m.from_reaches m.to_reaches in
    let step : m.from * stride ≡ m.to * stride = ap (λ n. n * stride) same in
    let a = m.at in let b = m.is in
    inr (omega (arith, ints)))
    (λ (lt : m.distance < stride).
    let a = m.at in
    let there : cut ≡ start +ℤ pos inside = at.0 (omega (arith, ints)) in
    let whole : inside ≡ m.distance + m.from * stride = omega (arith, ints) in
    let shift : inside % stride ≡ m.distance = ap (λ n. n % stride) whole ∙ (add-mul-mod_self_right m.distance m.from stride ∙ mod-eq_of_lt lt) in
    let quot : inside / stride ≡ m.from = ap (λ n. n / stride) whole ∙ (add-mul-div_right m.distance m.from (omega arith) ∙ (ap (λ n. n + m.from) (div-eq_of_lt lt) ∙ (let e : 0 + m.from ≡ m.from = omega arith in e))) in
    let more = m.inside in
    let low = below (inside % stride) shift m.from m.from_counts m.from_reaches r in
    let high = below (inside % stride) shift m.to m.to_counts m.to_reaches r in
    let is = m.is in
    inl (omega arith, omega arith, (m.to, high, omega (arith, ints))))
    (turned (lt_or_ge m.distance stride))
  where
    turned : (m.distance < stride) ⊎ (stride ≤ m.distance) → (stride ≤ m.distance) ⊎ (m.distance < stride)
    turned (inl h) = inr h
    turned (inr h) = inl h

    below : (s : ℕ) → s ≡ m.distance → (j : ℕ) → j < count → m.distance < reach stride count len j → AreReaching count len s reaching → j < reaching
    below s same j lt h q =
        ⊎_elim (λ (e : s < len). let n = q.0 e in omega arith)
        (λ (e : len ≤ s).
        let n = q.1 e in
        reach_both stride count len j (λ k. m.distance < k → j < reaching) (λ l b. absurd (omega arith)) (λ o b. omega arith) h)
        (lt_or_ge s len)

-- the same in what the code knows
pub no_other : (start cut o : ℤ) (stride count len inside reaching : ℕ) → IsDistance start cut inside → AreReaching count len (inside % stride) reaching → ((0 < inside % stride) × (inside / stride < reaching) → ⊥)
    → IsRepeated start stride count len cut o → o ≡ cut
no_other start cut o stride count len inside reaching at r none m =
    ⊎_elim (λ h. absurd (none (h.0, h.1))) (λ e. e) (repeated_case start cut o stride count len inside reaching at r m)

-- with a stride of 0 only the last element has an inside
pub still : (start cut o : ℤ) (stride count len : ℕ) → stride ≡ 0 → IsRepeated start stride count len cut o → o ≡ cut
still start cut o stride count len none m =
    let same : m.from ≡ m.to = last_both stride count len m.distance m.from m.to (omega arith) m.from_reaches m.to_reaches in
    let step : m.from * stride ≡ m.to * stride = ap (λ n. n * stride) same in
    let a = m.at in let b = m.is in
    omega (arith, ints)

-- A member by its number, and the one member of an interval that has no other.
use Rattle.std.proofs.Common.{◌≡◌, ◌≢◌, ℕ, ◌*◌, ◌<◌, ◌↔◌, eqb, ℤ, pos, ◌+ℤ◌, Option, Some, None, refl, sym, subst, ap, ◌∙◌, eqb-true, arith}
use Rattle.std.specs.Prelude.{◌≤ℤ◌}
use Rattle.std.proofs.lemmas.Bool.{cond_both, cond-false, ne_eqb}
use Rattle.std.proofs.lemmas.Int.{ints}
use Rattle.std.proofs.lemmas.Option.{none-some, same_Some}
use Rattle.strided.specs.Interval.{Interval, interval, IsMember, IsCanonical, member_after, one}
use Rattle.strided.specs.Operations.{count, only}
use Rattle.strided.proofs.BoundLemmas.{count_exact}

-- ---- one member

-- the strides up to a member with a number below the count reach no further than the upper end
pub steps_within : (a : Interval) → IsCanonical a → (k s : ℕ) (lo : ℤ) → k < count a → s ≡ a.stride → lo ≡ a.lo
    → ((lo +ℤ pos (k * s)) ≤ℤ a.hi) × (k * s < 4294967296)
steps_within a form k s lo below same from =
    let m = (count_exact a form).reached k below in
    let turns : k * s ≡ k * a.stride = ap (λ (n : ℕ). k * n) same in
    let end = m.in_range in
    let low = form.low in
    let high = form.high in (omega (arith, ints), omega (arith, ints))

pub member_numbered : (v : ℤ) (a : Interval) → IsCanonical a → (k : ℕ) → k < count a → v ≡ member_after a k → IsMember v a
member_numbered v a form k below is = subst (λ w. IsMember w a) (sym is) ((count_exact a form).reached k below)

-- ---- the one member

pub only_alone : (a : Interval) (v : ℤ) → a.stride ≡ 0 → v ≡ a.lo → Some v ≡ only a
unfolding only
only_alone a v none is = rw (none, is) refl

pub only_several : (a : Interval) → a.stride ≢ 0 → None ≡ only a
unfolding only
only_several a some = sym (cond-false _ _ _ (ne_eqb a.stride 0 some))

pub only_tells : (r : Option ℤ) (a : Interval) → IsCanonical a → r ≡ only a → (v : ℤ) → (r ≡ Some v) ↔ (a ≡ one v)
unfolding only
only_tells r a form is v = (
  λ some. cond_both (eqb a.stride 0) (Some a.lo) None (λ (x : Option ℤ). x ≡ Some v → a ≡ one v)
      (λ yes same. alone (eqb-true a.stride 0 yes) (same_Some a.lo v same))
      (λ no same. absurd (none-some v same))
      (sym is ∙ some),
  λ same. is ∙ ap only same,
) where
  alone : a.stride ≡ 0 → a.lo ≡ v → a ≡ one v
  alone none lo_is =
      let hi_is : a.hi ≡ v = sym (form.alone.0 none) ∙ lo_is in
      ap₃ none lo_is hi_is
    where
      ap₃ : {s : ℕ} {lo hi : ℤ} → s ≡ 0 → lo ≡ v → hi ≡ v → interval s lo hi ≡ interval 0 v v
      ap₃ p q t = rw (p, q, t) refl

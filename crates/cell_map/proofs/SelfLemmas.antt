-- What a part becomes with itself: itself.
use Rattle.std.proofs.Common.{◌≡◌, ℕ, zero, suc, ◌*◌, ◌/◌, ◌<◌, ◌≤◌, Bool, true, false, cond, List, [], ◌∷◌, refl, sym, ◌∙◌, ap, ⊎_elim, arith}
use Rattle.std.specs.Prelude.{ℤ, pos, ◌+ℤ◌, ◌-ℤ◌, int_le, int_lt, unsigned_abs}
use Rattle.std.specs.Int.{IsGcd, ◌∣◌, int_min, int_max, int_gap}
use Rattle.std.proofs.lemmas.Int.{ints, clamps}
use Rattle.std.proofs.lemmas.Nat.Gcd.{IsGcd-from_zero}
use Rattle.std.proofs.Math.Nat.{mul-div_cancel}
use Rattle.std.proofs.lemmas.Bool.{cond-true, cond-false}
use Rattle.image_map.specs.Regions.{same_region, region_before}
use Rattle.image_map.proofs.OrderLaws.{same_region-itself, region_before-itself}
use Rattle.strided.specs.Gcd.{gcd}
use Rattle.strided.specs.Interval.{Interval, interval, one, IsCanonical, IsMember}
use Rattle.strided.specs.Operations as si
use Rattle.strided.specs.Operations.{spaced, joint_stride, widened_lo, widened_hi}
use Rattle.strided.proofs.GcdLemmas.{gcd_from_IsGcd, gcd-zero}
use Rattle.strided.proofs.SpacedLemmas.{spaced_one, spaced_many, same_spaced}
use Rattle.vset.specs.declared.part.Part.{Part}
use Rattle.vset.specs.declared.part.Both.{Both}
use Rattle.vset.specs.declared.part.Both.TheVariants.{Joined, Widened}
use Rattle.vset.specs.Values.{Values, Parts, settled}
use Rattle.vset.specs.Operations.{both_of, with_part, with_parts, of_both, part, same_part}
use Rattle.vset.proofs.SameLemmas.{same_part-equal}

-- -- Intervals

divides-itself : (n : ℕ) → n ∣ n
divides-itself n = let none = IsGcd-from_zero n 0 refl in none.0

gcd-itself : (s : ℕ) → gcd s s ≡ s
gcd-itself s = sym (gcd_from_IsGcd s s s (divides-itself s, divides-itself s, λ d p q. p))

joint-itself : (a : Interval) → joint_stride a a ≡ a.stride
unfolding joint_stride
joint-itself a = gcd-zero (gcd a.stride a.stride) (unsigned_abs (a.lo -ℤ a.lo)) (none a.lo) ∙ gcd-itself a.stride
  where
    none : (z : ℤ) → unsigned_abs (z -ℤ z) ≡ 0
    none z = omega (arith, ints)

alone : (a : Interval) → a.stride ≡ 0 → a.lo ≡ a.hi → one a.lo ≡ a
alone a none same = λ i. record { stride = sym none i; lo = a.lo; hi = same i }

spaced-itself : (a : Interval) → IsCanonical a → spaced a.stride a.lo a.hi ≡ a
spaced-itself a form = by_turns form.last.turns form.last.reached
  where
    by_stride : (s t : ℕ) → a.stride ≡ s → a.hi ≡ a.lo +ℤ pos (t * s) → spaced a.stride a.lo a.hi ≡ a
    by_stride zero t none reached =
        let same = form.alone.0 none in
        spaced_one a.stride 0 a.lo a.hi (omega (arith, ints, same)) (ap (λ n. 0 / n) none) ∙ alone a none same
    by_stride (suc s) zero some reached =
        let same : a.lo ≡ a.hi = omega (arith, ints, reached) in
        let none = form.alone.1 same in
        absurd (omega (arith, some, none))
    by_stride (suc s) (suc t) some reached =
        let turns : (suc t * a.stride) / a.stride ≡ suc t = mul-div_cancel (suc t) (omega (arith, some)) in
        spaced_many a.stride (suc t * a.stride) a.lo a.hi a.hi (reached ∙ ap (λ n. a.lo +ℤ pos (suc t * n)) (sym some)) (omega (arith, turns)) (reached ∙ ap (λ n. a.lo +ℤ pos (suc t * n)) (sym some) ∙ ap (λ n. a.lo +ℤ pos (n * a.stride)) (sym turns))

    by_turns : (t : ℕ) → a.hi ≡ a.lo +ℤ pos (t * a.stride) → spaced a.stride a.lo a.hi ≡ a
    by_turns t reached = by_stride a.stride t refl reached

both-itself : (both : Both) (a : Interval) → IsCanonical a → both_of both a a ≡ a
unfolding si.join si.widen widened_lo widened_hi
both-itself Joined a form = sym (same_spaced (sym (spaced-itself a form)) (joint_stride a a) (int_min a.lo a.lo) (int_max a.hi a.hi) (sym (joint-itself a)) (least a.lo) (greatest a.hi))
  where
    least : (z : ℤ) → z ≡ int_min z z
    least z = omega (arith, ints, clamps)

    greatest : (z : ℤ) → z ≡ int_max z z
    greatest z = omega (arith, ints, clamps)
both-itself Widened a form = sym (same_spaced (sym (spaced-itself a form)) (joint_stride a a) (widened_lo (joint_stride a a) a a) (widened_hi a a) (sym (joint-itself a)) (low a.lo (si.lowest (joint_stride a a) a.lo)) (low a.hi _))
  where
    low : (z w : ℤ) → z ≡ cond (int_le z z) z w
    low z w = sym (cond-true (int_le z z) z w (grind (arith, ints)))

-- -- Parts

lone-itself : (both : Both) (x : Part) → IsCanonical x.si → settled (x ∷ []) ≡ of_both both (Parts (x ∷ [])) (Parts (x ∷ []))
unfolding with_parts with_part
lone-itself both x form =
    ap (λ xs. settled xs) (sym (cond-false (region_before x.region x.region) _ _ (region_before-itself x.region) ∙ cond-true (same_region x.region x.region) _ _ (same_region-itself x.region) ∙ (λ i. part x.region (both-itself both x.si form i) ∷ [])))

pub same_lone : (x y : Part) (w : Values) → same_part x y ≡ true → w ≡ Parts (y ∷ []) → w ≡ Parts (x ∷ [])
same_lone x y w same is = is ∙ ap (λ (z : Part). Parts (z ∷ [])) (sym (same_part-equal x y same))

pub lone_of_each : (both : Both) (x : Part) (v w : Values) → v ≡ Parts (x ∷ []) → w ≡ Parts (x ∷ []) → IsCanonical x.si → settled (x ∷ []) ≡ of_both both v w
lone_of_each both x v w p q form = lone-itself both x form ∙ sym (λ i. of_both both (p i) (q i))

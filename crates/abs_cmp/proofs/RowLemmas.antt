-- What each row keeps, where the number lies as the condition says.

use Rattle.std.proofs.Common.{◌≡◌, ◌&&◌, cond, ℤ, pos, ◌+ℤ◌, Option, Some, None, arith}
use Rattle.std.specs.Prelude.{◌≤ℤ◌, ◌<ℤ◌, ◌-ℤ◌, IsSomeAnd}
use Rattle.std.specs.Ordering.{int_eq}
use Rattle.std.proofs.lemmas.Bool.{cond_both, and_parts}
use Rattle.std.proofs.lemmas.Int.{ints}
use Rattle.std.specs.Cmp.{signed_Decides}
use Rattle.strided.specs.Interval.{Interval, IsMember, IsCanonical, least, greatest}
use Rattle.strided.specs.Operations.{clip}
use Rattle.strided.proofs.MemberLemmas.{member_above, int_le_true}
use Rattle.strided.proofs.BoundLemmas.{member_clip}
use Rattle.abs_cmp.specs.Rows.{less, at_most, at_least, greater, is_natural, below, not_above, not_below, above, without_end, not_equal, is_zero, negative, not_negative}

-- v is left
abbrev pub Keeps : ℤ → Option Interval → Type 0
Keeps v r = IsSomeAnd r (λ (c : Interval). IsMember v c)

module _ (v : ℤ) (x : Interval) (form : IsCanonical x) (m : IsMember v x) where
  low : least ≤ℤ v
  low = let above : x.lo ≤ℤ v = member_above v x m in let first = form.low in omega (arith, ints)

  high : v ≤ℤ greatest
  high = let last = form.high in let under = m.in_range in omega (arith, ints)

  pub less_keeps : (z : ℤ) → v <ℤ z → Keeps v (less x z)
  unfolding less
  less_keeps z h =
      cond_both (int_eq z least) None (clip x least (z -ℤ pos 1)) (Keeps v)
      (λ yes. let e : z ≡ least = (signed_Decides z least).0 yes in let bottom : least ≤ℤ v = low in absurd (omega (arith, ints)))
      (λ no. member_clip v x least (z -ℤ pos 1) form m low (omega (arith, ints)))

  pub at_most_keeps : (z : ℤ) → v ≤ℤ z → Keeps v (at_most x z)
  unfolding at_most
  at_most_keeps z h = member_clip v x least z form m low h

  pub at_least_keeps : (z : ℤ) → z ≤ℤ v → Keeps v (at_least x z)
  unfolding at_least
  at_least_keeps z h = member_clip v x z greatest form m h high

  pub greater_keeps : (z : ℤ) → z <ℤ v → Keeps v (greater x z)
  unfolding greater
  greater_keeps z h =
      cond_both (int_eq z greatest) None (clip x (z +ℤ pos 1) greatest) (Keeps v)
      (λ yes. let e : z ≡ greatest = (signed_Decides z greatest).0 yes in let top : v ≤ℤ greatest = high in absurd (omega (arith, ints)))
      (λ no. member_clip v x (z +ℤ pos 1) greatest form m (omega (arith, ints)) high)

  -- -- The rows, where w is the member of the bound

  module _ (w : ℤ) (bound : Interval) (other : IsMember w bound) where
    from : bound.lo ≤ℤ w
    from = member_above w bound other

    pub equal_keeps : v ≡ w → Keeps v (clip x bound.lo bound.hi)
    equal_keeps e = let up : bound.lo ≤ℤ w = from in let under = other.in_range in member_clip v x bound.lo bound.hi form m (omega (arith, ints)) (omega (arith, ints))

    pub less_than_keeps : v <ℤ w → Keeps v (less x bound.hi)
    less_than_keeps h = let under = other.in_range in less_keeps bound.hi (omega (arith, ints))

    pub at_most_than_keeps : v ≤ℤ w → Keeps v (at_most x bound.hi)
    at_most_than_keeps h = let under = other.in_range in at_most_keeps bound.hi (omega (arith, ints))

    pub at_least_than_keeps : w ≤ℤ v → Keeps v (at_least x bound.lo)
    at_least_than_keeps h = let up : bound.lo ≤ℤ w = from in at_least_keeps bound.lo (omega (arith, ints))

    pub greater_than_keeps : w <ℤ v → Keeps v (greater x bound.lo)
    greater_than_keeps h = let up : bound.lo ≤ℤ w = from in greater_keeps bound.lo (omega (arith, ints))

    pub below_keeps : (pos 0 ≤ℤ w → (pos 0 ≤ℤ v) × (v <ℤ w)) → Keeps v (below x bound)
    unfolding below
    below_keeps h =
        cond_both (is_natural bound) (cond (int_eq bound.hi (pos 0)) None (clip x (pos 0) (bound.hi -ℤ pos 1))) (Some x) (Keeps v)
        (λ natural.
        let start : pos 0 ≤ℤ bound.lo = int_le_true (pos 0) bound.lo natural in
        let up : bound.lo ≤ℤ w = from in
        let under = other.in_range in
        let both = h (omega (arith, ints)) in
        let above = both.0 in
        let beneath = both.1 in
        cond_both (int_eq bound.hi (pos 0)) None (clip x (pos 0) (bound.hi -ℤ pos 1)) (Keeps v)
        (λ zero. let e : bound.hi ≡ pos 0 = (signed_Decides bound.hi (pos 0)).0 zero in absurd (omega (arith, ints)))
        (λ more. member_clip v x (pos 0) (bound.hi -ℤ pos 1) form m above (omega (arith, ints))))
        (λ other. m)

    pub not_above_keeps : (pos 0 ≤ℤ w → (pos 0 ≤ℤ v) × (v ≤ℤ w)) → Keeps v (not_above x bound)
    unfolding not_above
    not_above_keeps h =
        cond_both (is_natural bound) (clip x (pos 0) bound.hi) (Some x) (Keeps v)
        (λ natural.
        let start : pos 0 ≤ℤ bound.lo = int_le_true (pos 0) bound.lo natural in
        let up : bound.lo ≤ℤ w = from in
        let under = other.in_range in
        let both = h (omega (arith, ints)) in
        let above = both.0 in
        let beneath = both.1 in
        member_clip v x (pos 0) bound.hi form m above (omega (arith, ints)))
        (λ other. m)

    pub not_below_keeps : (pos 0 ≤ℤ w → pos 0 ≤ℤ v → w ≤ℤ v) → Keeps v (not_below x bound)
    unfolding not_below
    not_below_keeps h =
        cond_both (is_natural bound && is_natural x) (at_least x bound.lo) (Some x) (Keeps v)
        (λ natural.
        let both = and_parts (is_natural bound) (is_natural x) natural in
        let start : pos 0 ≤ℤ bound.lo = int_le_true (pos 0) bound.lo both.0 in
        let first : pos 0 ≤ℤ x.lo = int_le_true (pos 0) x.lo both.1 in
        let up : bound.lo ≤ℤ w = from in
        let above : x.lo ≤ℤ v = member_above v x m in
        at_least_than_keeps (h (omega (arith, ints)) (omega (arith, ints))))
        (λ other. m)

    pub above_keeps : (pos 0 ≤ℤ w → pos 0 ≤ℤ v → w <ℤ v) → Keeps v (above x bound)
    unfolding above
    above_keeps h =
        cond_both (is_natural bound && is_natural x) (greater x bound.lo) (Some x) (Keeps v)
        (λ natural.
        let both = and_parts (is_natural bound) (is_natural x) natural in
        let start : pos 0 ≤ℤ bound.lo = int_le_true (pos 0) bound.lo both.0 in
        let first : pos 0 ≤ℤ x.lo = int_le_true (pos 0) x.lo both.1 in
        let up : bound.lo ≤ℤ w = from in
        let above : x.lo ≤ℤ v = member_above v x m in
        greater_than_keeps (h (omega (arith, ints)) (omega (arith, ints))))
        (λ other. m)

    without_keeps : (z : ℤ) → (v ≡ z → ⊥) → Keeps v (without_end x z)
    unfolding without_end
    without_keeps z apart =
        let above : x.lo ≤ℤ v = member_above v x m in
        let under = m.in_range in
        cond_both (int_eq z x.lo) (greater x z) (cond (int_eq z x.hi) (less x z) (Some x)) (Keeps v)
        (λ start. let e : z ≡ x.lo = (signed_Decides z x.lo).0 start in greater_keeps z (omega (arith, ints)))
        (λ later.
        cond_both (int_eq z x.hi) (less x z) (Some x) (Keeps v)
        (λ end. let e : z ≡ x.hi = (signed_Decides z x.hi).0 end in less_keeps z (omega (arith, ints)))
        (λ within. m))

    pub not_equal_keeps : (v ≡ w → ⊥) → Keeps v (not_equal x bound)
    unfolding not_equal
    not_equal_keeps apart =
        let up : bound.lo ≤ℤ w = from in
        let under = other.in_range in
        cond_both (int_eq bound.lo bound.hi) (without_end x bound.lo) (Some x) (Keeps v)
        (λ single. let e : bound.lo ≡ bound.hi = (signed_Decides bound.lo bound.hi).0 single in let is : w ≡ bound.lo = omega (arith, ints) in without_keeps bound.lo (λ same. apart (omega (arith, ints))))
        (λ several. m)

    pub negative_keeps : (w ≡ pos 0 → v <ℤ pos 0) → Keeps v (negative x bound)
    unfolding negative
    negative_keeps h =
        let up : bound.lo ≤ℤ w = from in
        let under = other.in_range in
        cond_both (is_zero bound) (less x (pos 0)) (Some x) (Keeps v)
        (λ zero.
        let both = and_parts (int_eq bound.lo (pos 0)) (int_eq bound.hi (pos 0)) zero in
        let start : bound.lo ≡ pos 0 = (signed_Decides bound.lo (pos 0)).0 both.0 in
        let end : bound.hi ≡ pos 0 = (signed_Decides bound.hi (pos 0)).0 both.1 in
        less_keeps (pos 0) (h (omega (arith, ints))))
        (λ other. m)

    pub not_negative_keeps : (w ≡ pos 0 → pos 0 ≤ℤ v) → Keeps v (not_negative x bound)
    unfolding not_negative
    not_negative_keeps h =
        let up : bound.lo ≤ℤ w = from in
        let under = other.in_range in
        cond_both (is_zero bound) (at_least x (pos 0)) (Some x) (Keeps v)
        (λ zero.
        let both = and_parts (int_eq bound.lo (pos 0)) (int_eq bound.hi (pos 0)) zero in
        let start : bound.lo ≡ pos 0 = (signed_Decides bound.lo (pos 0)).0 both.0 in
        let end : bound.hi ≡ pos 0 = (signed_Decides bound.hi (pos 0)).0 both.1 in
        at_least_keeps (pos 0) (h (omega (arith, ints))))
        (λ other. m)

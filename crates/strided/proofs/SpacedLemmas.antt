-- The interval of two ends and a stride: its form, and that lowering the upper end loses no member.
use Rattle.std.proofs.Common.{◌≡◌, ℕ, zero, suc, ◌*◌, ◌/◌, ◌<◌, ◌≤◌, ℤ, pos, negsuc, ◌+ℤ◌, refl, subst, ap, ◌∙◌, arith}
use Rattle.std.specs.Prelude.{◌≤ℤ◌}
use Rattle.std.specs.Int.{int_gap}
use Rattle.std.proofs.Math.Nat.{div-mul-le_self, div-mul_cancel, le-div_iff_mul-le, mul-le-mul_right, dvd-mul_left}
use Rattle.std.proofs.lemmas.Int.{ints}
use Rattle.strided.specs.Interval.{Interval, interval, IsMember, IsCanonical, least, greatest, one}
use Rattle.strided.specs.Operations.{stepped, spaced}
use Rattle.strided.proofs.MemberLemmas.{canonical_by, member_above, member_gap}

pub gap_is : (lo hi : ℤ) → lo ≤ℤ hi → hi ≡ lo +ℤ pos (int_gap lo hi)
gap_is (pos a) (pos b) h = omega (arith, ints)
gap_is (pos a) (negsuc b) h = absurd (omega (arith, ints))
gap_is (negsuc a) (pos b) h = omega (arith, ints)
gap_is (negsuc a) (negsuc b) h = omega (arith, ints)

pub gap_from : (lo hi : ℤ) (n : ℕ) → hi ≡ lo +ℤ pos n → int_gap lo hi ≡ n
gap_from lo hi n at =
    let e : hi ≡ lo +ℤ pos (int_gap lo hi) = gap_is lo hi (omega (arith, ints)) in
    omega (arith, ints)

-- ---- so many strides above lo

pub stepped_canonical : (s : ℕ) (lo : ℤ) (t : ℕ) → least ≤ℤ lo → (lo +ℤ pos (t * s)) ≤ℤ greatest → IsCanonical (stepped s lo t)
unfolding stepped
stepped_canonical s lo zero low high =
    canonical_by 0 0 lo lo low (omega (arith, ints)) (omega (arith, ints)) (λ _. refl) (dvd-mul_left 0 0)
stepped_canonical s lo (suc t) low high =
    canonical_by s (suc t * s) lo (lo +ℤ pos (suc t * s)) low high refl (λ e. omega arith) (dvd-mul_left s (suc t))

pub member_stepped : (v : ℤ) (s : ℕ) (lo : ℤ) (t k : ℕ) → v ≡ lo +ℤ pos (k * s) → k ≤ t → IsMember v (stepped s lo t)
unfolding stepped
member_stepped v s lo zero zero at h =
    record { turns = 0; reached = omega (arith, ints); in_range = omega (arith, ints) }
member_stepped v s lo zero (suc k) at h = absurd (omega arith)
member_stepped v s lo (suc t) k at h =
    let below : k * s ≤ suc t * s = mul-le-mul_right s h in
    record { turns = k; reached = at; in_range = omega (arith, ints) }

pub stepped_member : (v : ℤ) (s : ℕ) (lo : ℤ) (t : ℕ) → IsMember v (stepped s lo t) → IsMember v (interval s lo (lo +ℤ pos (t * s)))
unfolding stepped
stepped_member v s lo zero h =
    record { turns = 0; reached = omega (arith, ints); in_range = omega (arith, ints) }
stepped_member v s lo (suc t) h = h

-- ---- two ends and a stride

pub spaced_canonical : (s : ℕ) (lo hi : ℤ) → lo ≤ℤ hi → least ≤ℤ lo → hi ≤ℤ greatest → IsCanonical (spaced s lo hi)
unfolding spaced
spaced_canonical s lo hi up low high =
    let e : hi ≡ lo +ℤ pos (int_gap lo hi) = gap_is lo hi up in
    let below : int_gap lo hi / s * s ≤ int_gap lo hi = div-mul-le_self (int_gap lo hi) s in
    stepped_canonical s lo (int_gap lo hi / s) low (omega (arith, ints))

-- lowering the upper end keeps each member
pub member_spaced : (v : ℤ) (s : ℕ) (lo hi : ℤ) → IsMember v (interval s lo hi) → IsMember v (spaced s lo hi)
unfolding spaced
member_spaced v zero lo hi h =
    member_stepped v zero lo (int_gap lo hi / zero) 0 (omega (arith, ints)) (omega arith)
member_spaced v (suc s) lo hi h =
    let up : lo ≤ℤ hi = omega (arith, ints) in
    let e : hi ≡ lo +ℤ pos (int_gap lo hi) = gap_is lo hi up in
    let fits : h.turns * suc s ≤ int_gap lo hi = omega (arith, ints) in
    let most : h.turns ≤ int_gap lo hi / suc s = (le-div_iff_mul-le (omega arith)).1 fits in
    member_stepped v (suc s) lo (int_gap lo hi / suc s) h.turns h.reached most

-- and adds none
pub spaced_member : (v : ℤ) (s : ℕ) (lo hi : ℤ) → lo ≤ℤ hi → IsMember v (spaced s lo hi) → IsMember v (interval s lo hi)
unfolding spaced
spaced_member v s lo hi up h =
    let e : hi ≡ lo +ℤ pos (int_gap lo hi) = gap_is lo hi up in
    let below : int_gap lo hi / s * s ≤ int_gap lo hi = div-mul-le_self (int_gap lo hi) s in
    let m : IsMember v (interval s lo (lo +ℤ pos (int_gap lo hi / s * s))) = stepped_member v s lo (int_gap lo hi / s) h in
    record { turns = m.turns; reached = m.reached; in_range = omega (arith, ints) }

-- how code computes it: one member where not one stride fits, and else the last stride that does
pub spaced_one : (s n : ℕ) (lo hi : ℤ) → hi ≡ lo +ℤ pos n → n / s ≡ 0 → spaced s lo hi ≡ one lo
unfolding spaced stepped
spaced_one s n lo hi at none =
    let e : int_gap lo hi ≡ n = gap_from lo hi n at in
    rw (e, none) refl

stepped_many : (s : ℕ) (lo : ℤ) (t : ℕ) → 0 < t → stepped s lo t ≡ interval s lo (lo +ℤ pos (t * s))
unfolding stepped
stepped_many s lo zero some = absurd (omega arith)
stepped_many s lo (suc t) some = refl

pub spaced_many : (s n : ℕ) (lo hi top : ℤ) → hi ≡ lo +ℤ pos n → 0 < n / s → top ≡ lo +ℤ pos (n / s * s) → spaced s lo hi ≡ interval s lo top
unfolding spaced
spaced_many s n lo hi top at some is =
    let e : int_gap lo hi ≡ n = gap_from lo hi n at in
    rw (e, is) (stepped_many s lo (n / s) some)

-- ---- what a call answers, at equal arguments

pub spaced_of_one : {r : Interval} {v : ℤ} → r ≡ one v → (s n : ℕ) (lo hi : ℤ) → v ≡ lo → hi ≡ lo +ℤ pos n → n / s ≡ 0 → r ≡ spaced s lo hi
spaced_of_one e s n lo hi is at none = let h : spaced s lo hi ≡ one lo = spaced_one s n lo hi at none in cc

pub spaced_of_many : {r : Interval} {s : ℕ} {v top : ℤ} → r ≡ interval s v top → (n : ℕ) (lo hi : ℤ) → v ≡ lo → hi ≡ lo +ℤ pos n → 0 < n / s → top ≡ lo +ℤ pos (n / s * s) → r ≡ spaced s lo hi
spaced_of_many {s} {top} e n lo hi is at some last =
    let h : spaced s lo hi ≡ interval s lo top = spaced_many s n lo hi top at some last in cc

pub same_spaced : {r : Interval} {s : ℕ} {lo hi : ℤ} → r ≡ spaced s lo hi → (s' : ℕ) (lo' hi' : ℤ) → s ≡ s' → lo ≡ lo' → hi ≡ hi' → r ≡ spaced s' lo' hi'
same_spaced e s' lo' hi' p q t = cc

-- the form of the many members
pub many_canonical : (s n : ℕ) (lo hi top : ℤ) → least ≤ℤ lo → hi ≤ℤ greatest → hi ≡ lo +ℤ pos n → 0 < n / s → top ≡ lo +ℤ pos (n / s * s) → IsCanonical (interval s lo top)
many_canonical s n lo hi top low high at some is =
    subst IsCanonical (spaced_many s n lo hi top at some is) (spaced_canonical s lo hi (omega (arith, ints)) low high)

pub same_gap : (r : ℕ) (x y : ℤ) → r ≡ int_gap x y → (u v : ℤ) → x ≡ u → y ≡ v → r ≡ int_gap u v
same_gap r x y e u v p q = e ∙ ap (λ (z : ℤ). int_gap z y) p ∙ ap (λ (z : ℤ). int_gap u z) q

-- ---- the ends

stepped_lo : (s : ℕ) (lo : ℤ) (t : ℕ) → (stepped s lo t).lo ≡ lo
unfolding stepped
stepped_lo s lo zero = refl
stepped_lo s lo (suc t) = refl

stepped_hi : (s : ℕ) (lo : ℤ) (t : ℕ) → (stepped s lo t).hi ≡ lo +ℤ pos (t * s)
unfolding stepped
stepped_hi s lo zero = omega (arith, ints)
stepped_hi s lo (suc t) = refl

pub spaced_lo : (s : ℕ) (lo hi : ℤ) → (spaced s lo hi).lo ≡ lo
unfolding spaced
spaced_lo s lo hi = stepped_lo s lo (int_gap lo hi / s)

pub spaced_hi : (s : ℕ) (lo hi : ℤ) → (spaced s lo hi).hi ≡ lo +ℤ pos (int_gap lo hi / s * s)
unfolding spaced
spaced_hi s lo hi = stepped_hi s lo (int_gap lo hi / s)

-- an upper end that is a member is not lowered
pub spaced_hi_member : (s : ℕ) (lo hi : ℤ) → IsMember hi (interval s lo hi) → (spaced s lo hi).hi ≡ hi
spaced_hi_member s lo hi h =
    let e : hi ≡ lo +ℤ pos (int_gap lo hi) = gap_is lo hi (member_above hi (interval s lo hi) h) in
    let whole : int_gap lo hi / s * s ≡ int_gap lo hi = div-mul_cancel s (member_gap hi (interval s lo hi) (int_gap lo hi) e h) in
    let top : (spaced s lo hi).hi ≡ lo +ℤ pos (int_gap lo hi / s * s) = spaced_hi s lo hi in
    omega (arith, ints)

-- Members of the shapes that results have.
use Rattle.std.proofs.Common.{◌≡◌, ℕ, ◌+◌, ◌-◌, ◌*◌, ◌^◌, ◌<◌, ◌≤◌, arith, ap, ◌&&◌, ⊎_elim, ◌⊎◌, inl, inr}
use Rattle.std.proofs.lemmas.Int.{ints, int_wrap_fits, SFits-int_wrap}
use Rattle.std.proofs.lemmas.Bool.{cond_both, cases_lt, and_parts}
use Rattle.std.proofs.Math.Nat.{mul-le-mul_right}
use Rattle.std.specs.Prelude.{ℤ, pos, ◌≤ℤ◌, ◌+ℤ◌, FitsSigned, int_le}
use Rattle.std.specs.Int.{int_wrap, w32}
use Rattle.strided.specs.Interval.{Interval, IsMember, IsCanonical, full, one, least, greatest}
use Rattle.strided.specs.Operations.{spaced}
use Rattle.strided.proofs.MemberLemmas.{member_above}
use Rattle.strided.proofs.SpacedLemmas.{member_spaced}
use Rattle.strided.proofs.SumLemmas.{member_full}
use Rattle.si_bits.specs.Operations.{bounded, up_to}
use Rattle.si_bits.specs.Concrete.{number}
use Rattle.si_bits.proofs.SignLemmas.{number-low}
use Rattle.si_bits.proofs.FloorLemmas.{distance}

-- where the stride is 0, the lower end is the one member
pub member_single : (v : ℤ) (a : Interval) → a.stride ≡ 0 → IsMember v a → v ≡ a.lo
member_single v a e m =
    let none : m.turns * a.stride ≡ m.turns * 0 = ap (λ (s : ℕ). m.turns * s) e in
    let r = m.reached in omega (arith, ints)

pub member_fits : (v : ℤ) (a : Interval) → IsCanonical a → IsMember v a → FitsSigned w32 v
member_fits v a c m =
    let above = member_above v a m in let below = m.in_range in let low = c.low in let high = c.high in omega (arith, ints)

pub member-one : (v w : ℤ) → v ≡ w → IsMember v (one w)
member-one v w e = record { turns = 0; reached = omega (arith, ints); in_range = omega (arith, ints) }

-- so many strides above the lower end, and not above the upper one
pub member-spaced : (s : ℕ) (lo hi v : ℤ) (k : ℕ) → v ≡ (lo +ℤ pos (k * s)) → v ≤ℤ hi → IsMember v (spaced s lo hi)
member-spaced s lo hi v k e h = member_spaced v s lo hi (record { turns = k; reached = e; in_range = h })

-- each number between the ends, where the stride is 1
pub member-dense : (lo hi v : ℤ) → lo ≤ℤ v → v ≤ℤ hi → IsMember v (spaced 1 lo hi)
member-dense lo hi v above below =
    let d = distance lo v above in
    let e = d.1 in member-spaced 1 lo hi v d.0 (omega (arith, ints)) below

-- what 32 bits keep of a number lies in the interval of its ends: they keep it all where the ends are signed words
pub member-bounded : (s : ℕ) (lo hi v : ℤ) (k : ℕ) → v ≡ (lo +ℤ pos (k * s)) → v ≤ℤ hi → IsMember (int_wrap w32 v) (bounded s lo hi)
unfolding bounded
member-bounded s lo hi v k e h =
    cond_both (int_le least lo && int_le hi greatest) (spaced s lo hi) full (IsMember (int_wrap w32 v))
    (λ yes.
    let low = (and_parts (int_le least lo) (int_le hi greatest) yes).0 in
    let high = (and_parts (int_le least lo) (int_le hi greatest) yes).1 in
    let fits : FitsSigned w32 v = omega (arith, ints) in
    rw (int_wrap_fits w32 v fits) (member-spaced s lo hi v k e h))
    (λ _. member_full (int_wrap w32 v) (SFits-int_wrap w32 v))

pub member-bounded_dense : (lo hi v : ℤ) → lo ≤ℤ v → v ≤ℤ hi → IsMember (int_wrap w32 v) (bounded 1 lo hi)
member-bounded_dense lo hi v above below =
    let d = distance lo v above in
    let e = d.1 in member-bounded 1 lo hi v d.0 (omega (arith, ints)) below

-- ---- strides from a member up to the upper end

cases_le : (t k : ℕ) → (t ≤ k) ⊎ (k ≤ t)
cases_le t k = ⊎_elim (λ (lt : t < k). inl (omega arith)) (λ (le : k ≤ t). inr le) (cases_lt t k)

steps_between : (s t k : ℕ) → t * s ≤ k * s → (n : ℕ) × (n * s + t * s ≡ k * s)
steps_between s t k h =
    ⊎_elim
    (λ (le : t ≤ k). let e : (k - t) + t ≡ k = omega arith in let m : ((k - t) + t) * s ≡ k * s = ap (λ (x : ℕ). x * s) e in (k - t, omega arith))
    (λ (le : k ≤ t). let m = mul-le-mul_right s le in (0, omega arith))
    (cases_le t k)

pub steps_to_top : (a : Interval) (v : ℤ) → IsCanonical a → IsMember v a → (n : ℕ) × (a.hi ≡ (v +ℤ pos (n * a.stride)))
steps_to_top a v c m =
    let at = m.reached in
    let top = c.last.reached in
    let below = m.in_range in
    let n = steps_between a.stride m.turns c.last.turns (omega (arith, ints)) in
    let e = n.1 in (n.0, omega (arith, ints))

pub member-up_to : (n r : ℕ) → r ≤ n → r < 2 ^ 31 → IsMember (number r) (up_to n)
member-up_to n r le h =
    let is = number-low r h in member-dense (pos 0) (pos n) (number r) (omega (arith, ints)) (omega (arith, ints))

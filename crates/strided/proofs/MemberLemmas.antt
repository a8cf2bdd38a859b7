-- What it means to be a member, and the form of an interval.
use Rattle.std.proofs.Common.{◌≡◌, ℕ, ◌+◌, ◌*◌, ◌/◌, ◌%◌, ◌↔◌, true, false, eqb, ℤ, pos, ◌+ℤ◌, inl, inr, ⊎_elim, refl, subst, eqb-true, eq-eqb, arith}
use Rattle.std.specs.Prelude.{◌≤ℤ◌, ◌<ℤ◌, FitsSigned, int_le, ◌⊎◌}
use Rattle.std.specs.Int.{◌∣◌, w32}
use Rattle.std.proofs.Math.Nat.{div-mul_cancel, dvd-mul_left, eq-zero_of_zero-dvd, one-dvd, dvd-zero, dvd-add, dvd-mul_left_of_dvd}
use Rattle.std.proofs.lemmas.Bool.{cases_Bool}
use Rattle.std.proofs.lemmas.Int.{ints}
use Rattle.std.proofs.lemmas.Nat.Gcd.{dvd_of_mod-eq-zero, mod-eq-zero_of_dvd}
use Rattle.strided.specs.Interval.{Interval, interval, IsMember, IsCanonical, IsSpan, least, greatest, full, one}

-- ---- the order of integers, as a test

pub int_le_true : (a b : ℤ) → int_le a b ≡ true → a ≤ℤ b
int_le_true a b e = grind (arith, ints)

pub int_le_false : (a b : ℤ) → int_le a b ≡ false → b <ℤ a
int_le_false a b e = grind (arith, ints)

pub le_int_le : (a b : ℤ) → a ≤ℤ b → int_le a b ≡ true
le_int_le a b h = grind (arith, ints)

pub lt_int_le : (a b : ℤ) → b <ℤ a → int_le a b ≡ false
lt_int_le a b h = grind (arith, ints)

pub int_either : (a b : ℤ) → (a ≤ℤ b) ⊎ (b <ℤ a)
int_either a b = ⊎_elim (λ e. inl (int_le_true a b e)) (λ e. inr (int_le_false a b e)) (cases_Bool (int_le a b))

-- ---- members by the distance from lo

pub member_at : (v : ℤ) (a : Interval) (n : ℕ) → v ≡ a.lo +ℤ pos n → v ≤ℤ a.hi → a.stride ∣ n → IsMember v a
member_at v a n at below whole =
    let e : n / a.stride * a.stride ≡ n = div-mul_cancel a.stride whole in
    record { turns = n / a.stride; reached = omega (arith, ints); in_range = below }

pub member_gap : (v : ℤ) (a : Interval) (n : ℕ) → v ≡ a.lo +ℤ pos n → IsMember v a → a.stride ∣ n
member_gap v a n at h =
    let e : h.turns * a.stride ≡ n = omega (arith, ints) in
    subst (λ (k : ℕ). a.stride ∣ k) e (dvd-mul_left a.stride h.turns)

pub member_above : (v : ℤ) (a : Interval) → IsMember v a → a.lo ≤ℤ v
member_above v a h = omega (arith, ints)

-- an interval that reaches lower and higher, by whole strides that divide a's, holds a's members
pub member_within : (v : ℤ) (a : Interval) (s d : ℕ) (lo hi : ℤ) → IsMember v a → a.lo ≡ lo +ℤ pos d → a.hi ≤ℤ hi → s ∣ d → s ∣ a.stride → IsMember v (interval s lo hi)
member_within v a s d lo hi h at below near fits =
    member_at v (interval s lo hi) (d + h.turns * a.stride) (omega (arith, ints)) (omega (arith, ints))
    (dvd-add s near (dvd-mul_left_of_dvd s fits h.turns))

pub member_iff : (v : ℤ) (a : Interval) (n : ℕ) → v ≡ a.lo +ℤ pos n → v ≤ℤ a.hi → (a.stride ∣ n) ↔ IsMember v a
member_iff v a n at below = (member_at v a n at below, member_gap v a n at)

pub divides_tells : (d n : ℕ) → (eqb (n % d) 0 ≡ true) ↔ (d ∣ n)
divides_tells d n = (
  λ e. dvd_of_mod-eq-zero d (eqb-true (n % d) 0 e),
  λ h. eq-eqb (n % d) 0 (mod-eq-zero_of_dvd d h),
)

-- ---- the canonical form

pub canonical_by : (s n : ℕ) (lo hi : ℤ) → least ≤ℤ lo → hi ≤ℤ greatest → hi ≡ lo +ℤ pos n → (n ≡ 0 → s ≡ 0) → s ∣ n → IsCanonical (interval s lo hi)
canonical_by s n lo hi low high at lone whole =
    let m : IsMember hi (interval s lo hi) = member_at hi (interval s lo hi) n at (omega (arith, ints)) whole in
    record {
      low = low;
      high = high;
      alone = (
        λ e. let none : n ≡ 0 = eq-zero_of_zero-dvd (subst (λ (k : ℕ). k ∣ n) e whole) in omega (arith, ints),
        λ e. lone (omega (arith, ints)),
      );
      last = m;
    }

pub canonical_order : (a : Interval) → IsCanonical a → a.lo ≤ℤ a.hi
canonical_order a h = member_above a.hi a h.last

pub full_canonical : IsCanonical full
full_canonical =
    canonical_by 1 4294967295 least greatest (omega (arith, ints)) (omega (arith, ints)) (omega (arith, ints)) (λ e. absurd (omega arith)) (one-dvd 4294967295)

pub one_canonical : (v : ℤ) → FitsSigned w32 v → IsCanonical (one v)
one_canonical v fits = canonical_by 0 0 v v (omega (arith, ints)) (omega (arith, ints)) (omega (arith, ints)) (λ _. refl) (dvd-zero 0)

pub canonical_iff : (s n : ℕ) (lo hi : ℤ) → least ≤ℤ lo → hi ≤ℤ greatest → hi ≡ lo +ℤ pos n → IsSpan s n ↔ IsCanonical (interval s lo hi)
canonical_iff s n lo hi low high at = (
  λ h. canonical_by s n lo hi low high at h.0 h.1,
  λ h. ((λ e. h.alone.1 (omega (arith, ints))), member_gap hi (interval s lo hi) n at h.last),
)

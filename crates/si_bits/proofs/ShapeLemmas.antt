-- What the code computes is the shape that a formula names.
use Rattle.std.proofs.Common.{◌≡◌, ℕ, ◌-◌, ◌/◌, ◌%◌, ◌^◌, ◌<◌, arith, ap, ◌∙◌, sym, true, false, ◌&&◌}
use Rattle.std.proofs.lemmas.Bool.{cond-true, cond-false, ne_eqb, eq-eqb}
use Rattle.std.specs.Prelude.{ℤ, pos, int_le, ◌==◌, neg_ℤ, if◌then◌else◌}
use Rattle.std.specs.Int.{w32, int_shr, leading_zeros, trailing_zeros}
use Rattle.strided.specs.Interval.{Interval, IsCanonical, full, one, least, greatest}
use Rattle.strided.specs.Operations.{spaced}
use Rattle.si_bits.specs.Concrete.{and_of, sar_of}
use Rattle.si_bits.specs.Operations.{aligned, bounded, is_single, is_natural, up_to, sar, shr, shifted}
use Rattle.si_bits.proofs.ShiftLemmas.{sar_of-is, power_le}
use Rattle.si_bits.proofs.MaskLemmas.{digits_above}
use Rattle.si_bits.proofs.MemberLemmas.{member_fits}
use Rattle.strided.proofs.BoundLemmas.{member_lo}
use Rattle.std.proofs.lemmas.Nat.{pow_pos}
use Rattle.std.proofs.lemmas.Nat.Bits.{ones_shr}

pub bounded-words : (s : ℕ) (lo hi : ℤ) → (int_le least lo && int_le hi greatest) ≡ true → bounded s lo hi ≡ spaced s lo hi
unfolding bounded
bounded-words s lo hi words = cond-true (int_le least lo && int_le hi greatest) (spaced s lo hi) full words

pub bounded-full : (s : ℕ) (lo hi : ℤ) → (int_le least lo && int_le hi greatest) ≡ false → bounded s lo hi ≡ full
unfolding bounded
bounded-full s lo hi words = cond-false (int_le least lo && int_le hi greatest) (spaced s lo hi) full words

-- ---- shifts

pub sar-single : (a : Interval) (n : ℕ) (r : Interval) → n < 32 → IsCanonical a → is_single a ≡ true → r ≡ one (int_shr a.lo n) → r ≡ sar a n
unfolding sar
sar-single a n r h canonical single is =
    is ∙ ap one (sym (sar_of-is n a.lo h (member_fits a.lo a canonical (member_lo a canonical)))) ∙ sym (cond-true (is_single a) (one (sar_of n a.lo)) (shifted a n) single)

ones_right : (n : ℕ) → n < 32 → 4294967295 / 2 ^ n ≡ 2 ^ (32 - n) - 1
ones_right n h = ones_shr 32 n (omega arith)

pub ones_right-natural : (n : ℕ) → n < 32 → ¬ (n ≡ 0) → 4294967295 / 2 ^ n < 2 ^ 31
ones_right-natural n h some =
    let e = ones_right n h in
    let most = power_le (32 - n) 31 (omega arith) in
    let positive = pow_pos (32 - n) in omega arith

pub shr-wide : (a : Interval) (n : ℕ) (r : Interval) → n < 32 → is_single a ≡ false → ¬ (n ≡ 0) → is_natural a ≡ false → r ≡ up_to (4294967295 / 2 ^ n) → r ≡ shr a n
unfolding shr
shr-wide a n r h many some low is =
    is ∙ ap up_to (ones_right n h)
    ∙ sym (cond-false (is_single a) _ _ many ∙ cond-false (n == 0) _ _ (ne_eqb n 0 some) ∙ cond-false (is_natural a) _ _ low)

-- ---- masks

pub digits_shift : (n : ℕ) → n < 2 ^ 31 → 32 - leading_zeros w32 n < 32
digits_shift n h = let most = (digits_above n h).1 in omega arith

pub aligned-power : (a : Interval) (m : ℕ) (r : Interval) → 2 ^ trailing_zeros w32 m ≡ m
    → r ≡ spaced (if a.stride % m == 0 then a.stride else m) (and_of a.lo (neg_ℤ (pos m))) (and_of a.hi (neg_ℤ (pos m))) → r ≡ aligned a m
unfolding aligned
aligned-power a m r power is = is ∙ sym (cond-true (2 ^ trailing_zeros w32 m == m) _ _ (eq-eqb (2 ^ trailing_zeros w32 m) m power))

-- The intervals and values that operations give have the one form of their members.
use Rattle.std.proofs.Common.{◌≡◌, ℕ, zero, suc, ◌+◌, ◌-◌, ◌*◌, ◌/◌, ◌%◌, ◌^◌, ◌<◌, ◌≤◌, ◌==◌, ◌&&◌, cond, refl, sym, subst, arith}
use Rattle.std.proofs.lemmas.Int.{ints, clamps}
use Rattle.std.proofs.lemmas.Bool.{cond_both, eqb-true, eqb-false, and_parts}
use Rattle.std.proofs.lemmas.Nat.{or_lt, xor_lt, shr_le}
use Rattle.std.specs.Prelude.{nat_lt, ℤ, pos, negsuc, neg_ℤ, ◌≤ℤ◌, ◌-ℤ◌, unsigned_abs, FitsSigned, bit_or, bit_xor, int_le, int_lt}
use Rattle.std.specs.Int.{trailing_zeros, leading_zeros, int_min, int_max, int_shr, w32}
use Rattle.strided.specs.Interval.{Interval, IsCanonical, one, full, least, greatest}
use Rattle.strided.specs.Operations.{spaced}
use Rattle.strided.proofs.BoundLemmas.{member_lo}
use Rattle.strided.proofs.MemberLemmas.{one_canonical, full_canonical, canonical_order, int_le_true, int_le_false}
use Rattle.strided.proofs.SpacedLemmas.{spaced_canonical}
use Rattle.si_bits.specs.Concrete.{word, and_of, or_of, xor_of, product_of, shl_of, shr_of, sar_of, low_of, extended_word, extension_of}
use Rattle.si_bits.specs.Operations.{is_single, is_natural, bounded, up_to, least_product, greatest_product, multiple, span, mul, shl, shifted_stride, shifted, shr, sar, ceiling, masked, aligned, under_mask, and, or, xor, within_bits, low, sign_extend}
use Rattle.si_bits.proofs.FloorLemmas.{shr-le}
use Rattle.si_bits.proofs.MaskLemmas.{and_of-aligned_le, digits_above, and_of-fits}
use Rattle.si_bits.proofs.MemberLemmas.{member_fits}
use Rattle.si_bits.proofs.ShiftLemmas.{power_le, sar_of-is}
use Rattle.si_bits.proofs.SignLemmas.{number_fits, word-lt, fits_between, between_fits}
use Rattle.std.proofs.lemmas.Nat.{pow_pos}

-- -- Words

or_fits : (v w : ℤ) → FitsSigned w32 v → FitsSigned w32 w → FitsSigned w32 (or_of v w)
unfolding or_of
or_fits v w f g = number_fits (bit_or (word v) (word w)) (or_lt 32 (word v) (word w) (word-lt v f) (word-lt w g))

xor_fits : (v w : ℤ) → FitsSigned w32 v → FitsSigned w32 w → FitsSigned w32 (xor_of v w)
unfolding xor_of
xor_fits v w f g = number_fits (bit_xor (word v) (word w)) (xor_lt 32 (word v) (word w) (word-lt v f) (word-lt w g))

product_fits : (v w : ℤ) → FitsSigned w32 (product_of v w)
unfolding product_of
product_fits v w = number_fits (word v * word w % 2 ^ 32) (omega arith)

shl_fits : (n : ℕ) (v : ℤ) → FitsSigned w32 (shl_of n v)
unfolding shl_of
shl_fits n v = number_fits (word v * 2 ^ n % 2 ^ 32) (omega arith)

shr_fits : (n : ℕ) (v : ℤ) → FitsSigned w32 v → FitsSigned w32 (shr_of n v)
unfolding shr_of
shr_fits n v f =
    let low : word v / 2 ^ n ≤ word v = shr_le (word v) n in
    let lt : word v < 2 ^ 32 = word-lt v f in
    number_fits (word v / 2 ^ n) (omega (arith, low, lt))

floor_fits : (v : ℤ) (n : ℕ) → FitsSigned w32 v → FitsSigned w32 (int_shr v n)
floor_fits (pos x) n f =
    let low : x / 2 ^ n ≤ x = shr_le x n in
    let both = between_fits (pos x) f in
    fits_between (pos (x / 2 ^ n)) (omega (arith, ints)) (omega (arith, ints))
floor_fits (negsuc k) n f =
    let low : k / 2 ^ n ≤ k = shr_le k n in
    let both = between_fits (negsuc k) f in
    fits_between (negsuc (k / 2 ^ n)) (omega (arith, ints)) (omega (arith, ints))

sar_fits : (n : ℕ) (v : ℤ) → n < 32 → FitsSigned w32 v → FitsSigned w32 (sar_of n v)
sar_fits n v lt f = subst (FitsSigned w32) (sym (sar_of-is n v lt f)) (floor_fits v n f)

-- -- Shapes

pub up_to_form : (n : ℕ) → n < 2147483648 → IsCanonical (up_to n)
up_to_form n lt = spaced_canonical 1 (pos 0) (pos n) (omega (arith, ints)) (omega (arith, ints)) (omega (arith, ints))

bounded_form : (s : ℕ) (lo hi : ℤ) → lo ≤ℤ hi → IsCanonical (bounded s lo hi)
unfolding bounded
bounded_form s lo hi up =
    cond_both (int_le least lo && int_le hi greatest) (spaced s lo hi) full IsCanonical
    (λ yes. let both = and_parts (int_le least lo) (int_le hi greatest) yes in spaced_canonical s lo hi up (int_le_true least lo both.0) (int_le_true hi greatest both.1))
    (λ _. full_canonical)

module _ (a : Interval) (ca : IsCanonical a) where
  lo_fits : FitsSigned w32 a.lo
  lo_fits = member_fits a.lo a ca (member_lo a ca)

  hi_fits : FitsSigned w32 a.hi
  hi_fits = member_fits a.hi a ca ca.last

  up : a.lo ≤ℤ a.hi
  up = canonical_order a ca

  multiple_form : (c : ℤ) → IsCanonical (multiple a c)
  unfolding multiple
  multiple_form c = bounded_form (a.stride * unsigned_abs c) (least_product a c) (greatest_product a c) (omega (arith, ints, clamps))

  shifted_form : (n : ℕ) → IsCanonical (shifted a n)
  unfolding shifted
  shifted_form n =
      let low = between_fits (int_shr a.lo n) (floor_fits a.lo n lo_fits) in
      let high = between_fits (int_shr a.hi n) (floor_fits a.hi n hi_fits) in
      spaced_canonical (shifted_stride a n) (int_shr a.lo n) (int_shr a.hi n) (shr-le a.lo a.hi (2 ^ n) (pow_pos n) up) low.0 high.1

  pub shl_form : (n : ℕ) → IsCanonical (shl a n)
  unfolding shl
  shl_form n = cond_both (is_single a) (one (shl_of n a.lo)) (multiple a (pos (2 ^ n))) IsCanonical (λ _. one_canonical (shl_of n a.lo) (shl_fits n a.lo)) (λ _. multiple_form (pos (2 ^ n)))

  pub shr_form : (n : ℕ) → n < 32 → IsCanonical (shr a n)
  unfolding shr
  shr_form n lt =
      cond_both (is_single a) (one (shr_of n a.lo)) _ IsCanonical (λ _. one_canonical (shr_of n a.lo) (shr_fits n a.lo lo_fits))
      (λ _. cond_both (n == 0) a _ IsCanonical (λ _. ca)
      (λ some. cond_both (is_natural a) (shifted a n) (up_to (2 ^ (32 - n) - 1)) IsCanonical (λ _. shifted_form n)
      (λ _.
      let least_one : (n ≡ 0 → ⊥) = eqb-false n 0 some in
      let most : 2 ^ (32 - n) ≤ 2 ^ 31 = power_le (32 - n) 31 (below least_one) in
      up_to_form (2 ^ (32 - n) - 1) (omega (arith, most)))))
    where
      below : (n ≡ 0 → ⊥) → 32 - n ≤ 31
      below h = by n h
        where
          by : (n : ℕ) → (n ≡ 0 → ⊥) → 32 - n ≤ 31
          by zero h = absurd (h refl)
          by (suc n) h = omega arith

  pub sar_form : (n : ℕ) → n < 32 → IsCanonical (sar a n)
  unfolding sar
  sar_form n lt = cond_both (is_single a) (one (sar_of n a.lo)) (shifted a n) IsCanonical (λ _. one_canonical (sar_of n a.lo) (sar_fits n a.lo lt lo_fits)) (λ _. shifted_form n)

  masked_form : (m : ℕ) → m < 2147483648 → IsCanonical (masked a m)
  unfolding masked
  masked_form m lt =
      cond_both (m == 0) (one (pos 0)) (spaced (2 ^ trailing_zeros w32 m) (pos 0) (ceiling a m)) IsCanonical (λ _. one_canonical (pos 0) (fits_between (pos 0) (omega (arith, ints)) (omega (arith, ints))))
      (λ _. let both = ends in spaced_canonical (2 ^ trailing_zeros w32 m) (pos 0) (ceiling a m) both.0 (omega (arith, ints)) both.1)
    where
      ends : (pos 0 ≤ℤ ceiling a m) × (ceiling a m ≤ℤ greatest)
      ends =
          cond_both (is_natural a) (int_min (pos m) a.hi) (pos m) (λ z. (pos 0 ≤ℤ z) × (z ≤ℤ greatest))
          (λ yes. let natural : pos 0 ≤ℤ a.lo = int_le_true (pos 0) a.lo yes in let order : a.lo ≤ℤ a.hi = up in (omega (arith, ints, clamps), omega (arith, ints, clamps)))
          (λ _. (omega (arith, ints), omega (arith, ints)))

  aligned_form : (m : ℕ) → 0 < m → m ≤ 2147483648 → IsCanonical (aligned a m)
  unfolding aligned
  aligned_form m some most =
      cond_both (2 ^ trailing_zeros w32 m == m) (spaced (cond (a.stride % m == 0) a.stride m) (and_of a.lo (neg_ℤ (pos m))) (and_of a.hi (neg_ℤ (pos m)))) full IsCanonical
      (λ yes.
      let low = between_fits (and_of a.lo (neg_ℤ (pos m))) (and_of-fits a.lo (neg_ℤ (pos m)) lo_fits) in
      let high = between_fits (and_of a.hi (neg_ℤ (pos m))) (and_of-fits a.hi (neg_ℤ (pos m)) hi_fits) in
      spaced_canonical (cond (a.stride % m == 0) a.stride m) (and_of a.lo (neg_ℤ (pos m))) (and_of a.hi (neg_ℤ (pos m)))
      (and_of-aligned_le a.lo a.hi m some most (eqb-true (2 ^ trailing_zeros w32 m) m yes) lo_fits hi_fits up) low.0 high.1)
      (λ _. full_canonical)

  mask_form : (c : ℤ) → FitsSigned w32 c → IsCanonical (under_mask a c)
  unfolding under_mask
  mask_form c f =
      let both = between_fits c f in
      cond_both (int_le (pos 0) c) (masked a (unsigned_abs c)) (aligned a (unsigned_abs c)) IsCanonical
      (λ yes. let natural : pos 0 ≤ℤ c = int_le_true (pos 0) c yes in masked_form (unsigned_abs c) (omega (arith, ints)))
      (λ no_. aligned_form (unsigned_abs c) (let below = int_le_false (pos 0) c no_ in omega (arith, ints)) (let below = int_le_false (pos 0) c no_ in omega (arith, ints)))

  -- the low bits of a word
  low_8 : (v : ℤ) → FitsSigned w32 (low_of 8 v)
  unfolding low_of
  low_8 v = number_fits (word v % 256) (omega arith)

  low_16 : (v : ℤ) → FitsSigned w32 (low_of 16 v)
  unfolding low_of
  low_16 v = number_fits (word v % 65536) (omega arith)

  low_form : (w : ℕ) → FitsSigned w32 (low_of w a.lo) → 2 ^ w ≤ 2147483648 → IsCanonical (low w a)
  unfolding low
  low_form w fits few =
      cond_both (is_single a) (one (low_of w a.lo)) _ IsCanonical (λ _. one_canonical (low_of w a.lo) fits)
      (λ _. cond_both (is_natural a && int_lt a.hi (pos (2 ^ w))) a (up_to (2 ^ w - 1)) IsCanonical (λ _. ca) (λ _. up_to_form (2 ^ w - 1) (omega (arith, few))))

  pub low_8_form : IsCanonical (low 8 a)
  low_8_form = low_form 8 (low_8 a.lo) (omega arith)

  pub low_16_form : IsCanonical (low 16 a)
  low_16_form = low_form 16 (low_16 a.lo) (omega arith)

  extended_8 : (v : ℤ) → FitsSigned w32 (extension_of 8 v)
  unfolding extension_of extended_word
  extended_8 v =
      let small : word v % 256 < 256 = omega arith in
      number_fits _ (cond_both (nat_lt (word v % 256) 128) 0 4294967040 (λ (k : ℕ). word v % 256 + k < 4294967296) (λ _. omega (arith, small)) (λ _. omega (arith, small)))

  extended_16 : (v : ℤ) → FitsSigned w32 (extension_of 16 v)
  unfolding extension_of extended_word
  extended_16 v =
      let small : word v % 65536 < 65536 = omega arith in
      number_fits _ (cond_both (nat_lt (word v % 65536) 32768) 0 4294901760 (λ (k : ℕ). word v % 65536 + k < 4294967296) (λ _. omega (arith, small)) (λ _. omega (arith, small)))

  -- of numbers of 8 or 16 bits
  extend_form : (w : ℕ) → FitsSigned w32 (extension_of w a.lo) → 2 ^ w ≤ 65536 → 2 ^ (w - 1) ≤ 2 ^ w → a.hi ≤ℤ pos (2 ^ w) → IsCanonical (sign_extend w a)
  unfolding sign_extend
  extend_form w fits few half high =
      let order : a.lo ≤ℤ a.hi = up in
      cond_both (is_single a) (one (extension_of w a.lo)) _ IsCanonical (λ _. one_canonical (extension_of w a.lo) fits)
      (λ _. cond_both (int_lt a.hi (pos (2 ^ (w - 1)))) a _ IsCanonical (λ _. ca)
      (λ _. cond_both (int_le (pos (2 ^ (w - 1))) a.lo) (spaced a.stride (a.lo -ℤ pos (2 ^ w)) (a.hi -ℤ pos (2 ^ w))) (spaced 1 (neg_ℤ (pos (2 ^ (w - 1)))) (pos (2 ^ (w - 1) - 1))) IsCanonical
      (λ yes. let above : pos (2 ^ (w - 1)) ≤ℤ a.lo = int_le_true (pos (2 ^ (w - 1))) a.lo yes in
      spaced_canonical a.stride (a.lo -ℤ pos (2 ^ w)) (a.hi -ℤ pos (2 ^ w)) (omega (arith, ints)) (omega (arith, ints)) (omega (arith, ints)))
      (λ _. spaced_canonical 1 (neg_ℤ (pos (2 ^ (w - 1)))) (pos (2 ^ (w - 1) - 1)) (omega (arith, ints)) (omega (arith, ints)) (omega (arith, ints)))))

  pub extend_8_form : a.hi ≤ℤ pos 255 → IsCanonical (sign_extend 8 a)
  extend_8_form high = extend_form 8 (extended_8 a.lo) (omega arith) (omega arith) (omega (arith, ints))

  pub extend_16_form : a.hi ≤ℤ pos 65535 → IsCanonical (sign_extend 16 a)
  extend_16_form high = extend_form 16 (extended_16 a.lo) (omega arith) (omega arith) (omega (arith, ints))

module _ (a b : Interval) (ca : IsCanonical a) (cb : IsCanonical b) where
  span_form : IsCanonical (span a b)
  unfolding span
  span_form = bounded_form 1 _ _ (omega (arith, ints, clamps))

  pub mul_form : IsCanonical (mul a b)
  unfolding mul
  mul_form =
      cond_both (is_single a && is_single b) (one (product_of a.lo b.lo)) _ IsCanonical (λ _. one_canonical (product_of a.lo b.lo) (product_fits a.lo b.lo))
      (λ _. cond_both (is_single b) (multiple a b.lo) _ IsCanonical (λ _. multiple_form a ca b.lo)
      (λ _. cond_both (is_single a) (multiple b a.lo) (span a b) IsCanonical (λ _. multiple_form b cb a.lo) (λ _. span_form)))

  pub and_form : IsCanonical (and a b)
  unfolding and
  and_form =
      cond_both (is_single a && is_single b) (one (and_of a.lo b.lo)) _ IsCanonical (λ _. one_canonical (and_of a.lo b.lo) (and_of-fits a.lo b.lo (lo_fits a ca)))
      (λ _. cond_both (is_single b) (under_mask a b.lo) _ IsCanonical (λ _. mask_form a ca b.lo (lo_fits b cb))
      (λ _. cond_both (is_single a) (under_mask b a.lo) _ IsCanonical (λ _. mask_form b cb a.lo (lo_fits a ca))
      (λ _. cond_both (is_natural a && is_natural b) (spaced 1 (pos 0) (int_min a.hi b.hi)) full IsCanonical
      (λ yes.
      let both = and_parts (is_natural a) (is_natural b) yes in
      let first : pos 0 ≤ℤ a.lo = int_le_true (pos 0) a.lo both.0 in
      let second : pos 0 ≤ℤ b.lo = int_le_true (pos 0) b.lo both.1 in
      let up_a : a.lo ≤ℤ a.hi = up a ca in
      let up_b : b.lo ≤ℤ b.hi = up b cb in
      let high : a.hi ≤ℤ greatest = ca.high in
      spaced_canonical 1 (pos 0) (int_min a.hi b.hi) (omega (arith, ints, clamps)) (omega (arith, ints)) (omega (arith, ints, clamps)))
      (λ _. full_canonical))))

  within_form : IsCanonical (within_bits a b)
  unfolding within_bits
  within_form =
      cond_both (is_natural a && is_natural b) (up_to (2 ^ (32 - leading_zeros w32 (unsigned_abs (int_max a.hi b.hi))) - 1)) full IsCanonical
      (λ yes.
      let both = and_parts (is_natural a) (is_natural b) yes in
      let first : pos 0 ≤ℤ a.lo = int_le_true (pos 0) a.lo both.0 in
      let up_a : a.lo ≤ℤ a.hi = up a ca in
      let high : a.hi ≤ℤ greatest = ca.high in
      let high_b : b.hi ≤ℤ greatest = cb.high in
      let most = digits_above (unsigned_abs (int_max a.hi b.hi)) (omega (arith, ints, clamps)) in
      let power : 2 ^ (32 - leading_zeros w32 (unsigned_abs (int_max a.hi b.hi))) ≤ 2 ^ 31 = power_le (32 - leading_zeros w32 (unsigned_abs (int_max a.hi b.hi))) 31 most.1 in
      up_to_form (2 ^ (32 - leading_zeros w32 (unsigned_abs (int_max a.hi b.hi))) - 1) (omega (arith, power)))
      (λ _. full_canonical)

  pub or_form : IsCanonical (or a b)
  unfolding or
  or_form = cond_both (is_single a && is_single b) (one (or_of a.lo b.lo)) (within_bits a b) IsCanonical (λ _. one_canonical (or_of a.lo b.lo) (or_fits a.lo b.lo (lo_fits a ca) (lo_fits b cb))) (λ _. within_form)

  pub xor_form : IsCanonical (xor a b)
  unfolding xor
  xor_form = cond_both (is_single a && is_single b) (one (xor_of a.lo b.lo)) (within_bits a b) IsCanonical (λ _. one_canonical (xor_of a.lo b.lo) (xor_fits a.lo b.lo (lo_fits a ca) (lo_fits b cb))) (λ _. within_form)

-- The bits that a mask keeps, or that two words give, of members.
use Rattle.std.proofs.Common.{◌≡◌, ℕ, zero, suc, ◌+◌, ◌-◌, ◌*◌, ◌/◌, ◌%◌, ◌^◌, ◌<◌, ◌≤◌, arith, ap, ap₂, ◌∙◌, sym, ◌&&◌, ⊎_elim}
use Rattle.std.proofs.lemmas.Int.{ints, clamps}
use Rattle.std.proofs.lemmas.Bool.{cond_both, eqb-true, eqb-false, cases_lt}
use Rattle.std.proofs.lemmas.Nat.{and_mod, and_le_l, and_le_r, and_comm, or_lt, xor_lt, mod_below, pow_pos, shr_split, leading_length, pow-add, div_below}
use Rattle.std.proofs.lemmas.Nat.Bits.{bit_at-trailing_zeros, same_from_bits_below, bit_at-zero, bit_at_cat_low, and_high_mask}
use Rattle.std.proofs.Math.Nat.{mul-le-mul_right}
use Rattle.std.specs.Prelude.{ℤ, pos, negsuc, neg_ℤ, ◌≤ℤ◌, ◌+ℤ◌, ◌*ℤ◌, unsigned_abs, FitsSigned, ◌==◌, if◌then◌else◌, bit_and, bit_or, bit_xor, int_le}
use Rattle.std.specs.Int.{trailing_zeros, leading_zeros, bit_at, int_min, int_max, w32}
use Rattle.std.specs.Int.Bits.{and_zero_r}
use Rattle.std.specs.Int.Signed.{shr_z}
use Rattle.strided.specs.Interval.{Interval, IsMember, IsCanonical}
use Rattle.strided.specs.Operations.{spaced}
use Rattle.strided.proofs.MemberLemmas.{member_above}
use Rattle.si_bits.specs.Concrete.{word, number, and_of, or_of, xor_of}
use Rattle.si_bits.specs.Operations.{masked, aligned, under_mask, and, or, xor, within_bits, is_single, is_natural, up_to}
use Rattle.si_bits.proofs.FloorLemmas.{mul_moved, distance, shr-le}
use Rattle.si_bits.proofs.ProductLemmas.{mul_pos-le}
use Rattle.si_bits.proofs.ShiftLemmas.{shr-moved, complement_div, power_split, power_le}
use Rattle.si_bits.proofs.MemberLemmas.{member_single, member_fits, member-one, member-spaced, member-dense, member-up_to}
use Rattle.strided.proofs.SumLemmas.{member_full}
use Rattle.strided.proofs.BoundLemmas.{member_lo}
use Rattle.std.proofs.lemmas.Bool.{and_parts}
use Rattle.si_bits.proofs.SignLemmas.{number-low, number-high, number_fits, word-lt, word-natural, abs-natural}

-- ---- the zeros at the low end of a mask

-- a number is a multiple of its lowest bit
trailing_zeros-mod : (m : ℕ) → 0 < m → m < 2 ^ 32 → m % 2 ^ trailing_zeros w32 m ≡ 0
trailing_zeros-mod m some h =
    let t = trailing_zeros w32 m in
    let zeros = (bit_at-trailing_zeros w32 m some h).2 in
    let split = shr_split m t in
    same_from_bits_below t (m % 2 ^ t) 0 (mod_below m (2 ^ t) (pow_pos t)) (pow_pos t)
    (λ i low. sym (bit_at_cat_low (m / 2 ^ t) t (m % 2 ^ t) i low) ∙ ap (λ (n : ℕ). bit_at n i) split ∙ zeros i low ∙ sym (bit_at-zero i))

-- so is what the mask keeps
and-mod_trailing : (x m : ℕ) → 0 < m → m < 2 ^ 32 → bit_and x m % 2 ^ trailing_zeros w32 m ≡ 0
and-mod_trailing x m some h =
    and_mod x m (trailing_zeros w32 m) ∙ ap (bit_and (x % 2 ^ trailing_zeros w32 m)) (trailing_zeros-mod m some h) ∙ and_zero_r (x % 2 ^ trailing_zeros w32 m)

-- ---- a mask that is not negative

and_of-mask : (v : ℤ) (m : ℕ) → m < 2 ^ 31 → and_of v (pos m) ≡ pos (bit_and (word v) m)
unfolding and_of
and_of-mask v m h = let less = and_le_r (word v) m in number-low (bit_and (word v) m) (omega arith)

and_of-natural : (v w : ℤ) → pos 0 ≤ℤ v → pos 0 ≤ℤ w → FitsSigned w32 v → FitsSigned w32 w → (pos 0 ≤ℤ and_of v w) × (and_of v w ≤ℤ int_min v w)
unfolding and_of
and_of-natural (pos x) (pos y) p q f g =
    let fits = f.sfits in
    let le-x = and_le_l x y in
    let le-y = and_le_r x y in
    let is : number (bit_and x y) ≡ pos (bit_and x y) = number-low (bit_and x y) (omega arith) in
    (omega (arith, ints), omega (arith, ints, clamps))
and_of-natural (pos x) (negsuc k) p q f g = absurd (omega (arith, ints))
and_of-natural (negsuc k) w p q f g = absurd (omega (arith, ints))

pub and_of-fits : (v w : ℤ) → FitsSigned w32 v → FitsSigned w32 (and_of v w)
unfolding and_of
and_of-fits v w f = let less = and_le_l (word v) (word w) in let fits = word-lt v f in number_fits (bit_and (word v) (word w)) (omega arith)

pub member-masked : (a : Interval) (m : ℕ) (v : ℤ) → m < 2 ^ 31 → IsCanonical a → IsMember v a → IsMember (and_of v (pos m)) (masked a m)
unfolding masked
member-masked a m v h ca n =
    let x = word v in
    let is = and_of-mask v m h in
    let fits = member_fits v a ca n in
    let above = member_above v a n in
    let within = n.in_range in
    cond_both (m == 0) _ _ (IsMember (and_of v (pos m)))
    (λ none. member-one (and_of v (pos m)) (pos 0) (is ∙ ap pos (ap (bit_and x) (eqb-true m 0 none) ∙ and_zero_r x)))
    (λ some.
    let t = trailing_zeros w32 m in
    let step : bit_and x m % 2 ^ t ≡ 0 = and-mod_trailing x m (omega (arith, eqb-false m 0 some)) (omega arith) in
    let whole : bit_and x m / 2 ^ t * 2 ^ t + bit_and x m % 2 ^ t ≡ bit_and x m = shr_split (bit_and x m) t in
    let reached : and_of v (pos m) ≡ (pos 0 +ℤ pos (bit_and x m / 2 ^ t * 2 ^ t)) = omega (arith, ints) in
    let le-m = and_le_r x m in
    member-spaced (2 ^ t) (pos 0) (if is_natural a then int_min (pos m) a.hi else pos m) (and_of v (pos m)) (bit_and x m / 2 ^ t) reached
    (cond_both (is_natural a) (int_min (pos m) a.hi) (pos m) (λ (top : ℤ). and_of v (pos m) ≤ℤ top)
    (λ natural.
    let both = and_of-natural v (pos m) (omega (arith, ints)) (omega (arith, ints)) fits (record { sfits = h }) in
    let below = both.1 in omega (arith, ints, clamps))
    (λ _. omega (arith, ints))))

-- ---- the mask of minus a power of 2

-- a number of more than 32 zeros at the low end is too great
trailing_zeros-small : (m : ℕ) → m ≤ 2 ^ 31 → 2 ^ trailing_zeros w32 m ≡ m → trailing_zeros w32 m < 32
trailing_zeros-small m h e =
    let t = trailing_zeros w32 m in
    ⊎_elim (λ (lt : t < 32). lt) (λ (ge : 32 ≤ t). let big : 2 ^ 32 ≤ 2 ^ t = power_le 32 t ge in absurd (omega arith)) (cases_lt t 32)

-- the mask clears the low t bits, which rounds down
and_of-aligned : (v : ℤ) (t j : ℕ) → t < 32 → suc j ≡ 2 ^ t → FitsSigned w32 v → and_of v (negsuc j) ≡ (shr_z v (2 ^ t) *ℤ pos (2 ^ t))
unfolding and_of
and_of-aligned (pos x) t j h e f =
    let fits : x < 2 ^ 31 = f.sfits in
    let kept : bit_and x (2 ^ 32 - suc j) ≡ x / 2 ^ t * 2 ^ t = rw e (and_high_mask 32 t (omega arith) x (omega arith)) in
    let split = shr_split x t in
    ap number kept ∙ number-low (x / 2 ^ t * 2 ^ t) (omega arith)
and_of-aligned (negsuc k) t j h e f =
    let fits : k < 2 ^ 31 = f.sfits in
    let x = 2 ^ 32 - suc k in
    let kept : bit_and (2 ^ 32 - suc k) (2 ^ 32 - suc j) ≡ (2 ^ 32 - suc k) / 2 ^ t * 2 ^ t = rw e (and_high_mask 32 t (omega arith) (2 ^ 32 - suc k) (omega arith)) in
    let whole = power_split t h in
    let parts : (2 ^ 32 - suc k) / 2 ^ t + suc (k / 2 ^ t) ≡ 2 ^ (32 - t) = complement_div (2 ^ (32 - t)) (2 ^ t) (2 ^ 32 - suc k) k (pow_pos t) (let one : 2 ^ 32 - suc k + suc k ≡ 2 ^ 32 = omega arith in one ∙ sym whole) in
    let scaled : ((2 ^ 32 - suc k) / 2 ^ t + suc (k / 2 ^ t)) * 2 ^ t ≡ 2 ^ (32 - t) * 2 ^ t = ap (λ (n : ℕ). n * 2 ^ t) parts in
    let half : 2 ^ (31 - t) * 2 ^ t ≡ 2 ^ 31 = let s : (31 - t) + t ≡ 31 = omega arith in sym (pow-add 2 (31 - t) t) ∙ ap (λ (n : ℕ). 2 ^ n) s in
    let quotient : suc (k / 2 ^ t) ≤ 2 ^ (31 - t) = div_below k (2 ^ t) (2 ^ (31 - t)) (pow_pos t) (rw half fits) in
    let most = mul-le-mul_right (2 ^ t) quotient in
    let some = pow_pos t in
    ap number kept
    ∙ number-high ((2 ^ 32 - suc k) / 2 ^ t * 2 ^ t) (suc (k / 2 ^ t) * 2 ^ t - 1) (omega arith) (omega arith)
    ∙ omega (arith, ints)

member-floors : (a : Interval) (m : ℕ) (v : ℤ) → 0 < m → IsMember v a
    → IsMember (shr_z v m *ℤ pos m) (spaced (if a.stride % m == 0 then a.stride else m) (shr_z a.lo m *ℤ pos m) (shr_z a.hi m *ℤ pos m))
member-floors a m v p n =
    let above = shr-le a.lo v m p (member_above v a n) in
    let below = mul_pos-le (shr_z v m) (shr_z a.hi m) m (shr-le v a.hi m p n.in_range) in
    cond_both (a.stride % m == 0) a.stride m (λ (s : ℕ). IsMember (shr_z v m *ℤ pos m) (spaced s (shr_z a.lo m *ℤ pos m) (shr_z a.hi m *ℤ pos m)))
    (λ yes.
    let none = eqb-true (a.stride % m) 0 yes in
    let whole : a.stride / m * m ≡ a.stride = omega arith in
    let steps : n.turns * (a.stride / m * m) ≡ n.turns * a.stride = ap (λ (k : ℕ). n.turns * k) whole in
    let moved = mul_moved (shr_z v m) (shr_z a.lo m) (n.turns * (a.stride / m)) m (shr-moved a.lo v n.turns a.stride m n.reached p none) in
    member-spaced a.stride (shr_z a.lo m *ℤ pos m) (shr_z a.hi m *ℤ pos m) (shr_z v m *ℤ pos m) n.turns (omega (arith, ints)) below)
    (λ _.
    let d = distance (shr_z a.lo m) (shr_z v m) above in
    member-spaced m (shr_z a.lo m *ℤ pos m) (shr_z a.hi m *ℤ pos m) (shr_z v m *ℤ pos m) d.0 (mul_moved (shr_z v m) (shr_z a.lo m) d.0 m d.1) below)

-- greater numbers are not less under the mask
pub and_of-aligned_le : (v w : ℤ) (m : ℕ) → 0 < m → m ≤ 2 ^ 31 → 2 ^ trailing_zeros w32 m ≡ m → FitsSigned w32 v → FitsSigned w32 w → v ≤ℤ w
    → and_of v (neg_ℤ (pos m)) ≤ℤ and_of w (neg_ℤ (pos m))
and_of-aligned_le v w zero some h power f g le = absurd (omega arith)
and_of-aligned_le v w (suc j) some h power f g le =
    let t = trailing_zeros w32 (suc j) in
    let less = trailing_zeros-small (suc j) h power in
    rw (and_of-aligned v t j less (sym power) f, and_of-aligned w t j less (sym power) g)
    (mul_pos-le (shr_z v (2 ^ t)) (shr_z w (2 ^ t)) (2 ^ t) (shr-le v w (2 ^ t) (pow_pos t) le))

-- the members of an interval with the low t bits cleared
pub member-lowered : (a : Interval) (j t : ℕ) (v : ℤ) → t < 32 → suc j ≡ 2 ^ t → IsCanonical a → IsMember v a
    → IsMember (and_of v (negsuc j)) (spaced (if a.stride % suc j == 0 then a.stride else suc j) (and_of a.lo (negsuc j)) (and_of a.hi (negsuc j)))
member-lowered a j t v h e ca n =
    let fits-lo = member_fits a.lo a ca (member_lo a ca) in
    let fits-hi = member_fits a.hi a ca ca.last in
    rw (and_of-aligned v t j h e (member_fits v a ca n), and_of-aligned a.lo t j h e fits-lo, and_of-aligned a.hi t j h e fits-hi, e)
    (member-floors a (2 ^ t) v (pow_pos t) n)

pub member-aligned : (a : Interval) (m : ℕ) (v : ℤ) → 0 < m → m ≤ 2 ^ 31 → IsCanonical a → IsMember v a → IsMember (and_of v (neg_ℤ (pos m))) (aligned a m)
unfolding aligned
member-aligned a zero v some h ca n = absurd (omega arith)
member-aligned a (suc j) v some h ca n =
    cond_both (2 ^ trailing_zeros w32 (suc j) == suc j) _ _ (IsMember (and_of v (negsuc j)))
    (λ yes.
    let power : 2 ^ trailing_zeros w32 (suc j) ≡ suc j = eqb-true (2 ^ trailing_zeros w32 (suc j)) (suc j) yes in
    member-lowered a j (trailing_zeros w32 (suc j)) v (trailing_zeros-small (suc j) h power) (sym power) ca n)
    (λ _. member_full (and_of v (negsuc j)) (and_of-fits v (negsuc j) (member_fits v a ca n)))

-- ---- and

pub member-under_mask : (a : Interval) (c v : ℤ) → FitsSigned w32 c → IsCanonical a → IsMember v a → IsMember (and_of v c) (under_mask a c)
unfolding under_mask
member-under_mask a (pos m) v f ca n =
    cond_both (int_le (pos 0) (pos m)) _ _ (IsMember (and_of v (pos m)))
    (λ _. member-masked a m v f.sfits ca n)
    (λ no. absurd (omega (arith, ints)))
member-under_mask a (negsuc k) v f ca n = let fits = f.sfits in member-aligned a (suc k) v (omega arith) (omega arith) ca n

and_of-comm : (v w : ℤ) → and_of v w ≡ and_of w v
unfolding and_of
and_of-comm v w = ap number (and_comm (word v) (word w))

pub member-and : (a b : Interval) (v w : ℤ) → IsCanonical a → IsCanonical b → IsMember v a → IsMember w b → IsMember (and_of v w) (and a b)
unfolding and
member-and a b v w ca cb m n =
    let fits-v = member_fits v a ca m in
    let fits-w = member_fits w b cb n in
    let above-v = member_above v a m in
    let above-w = member_above w b n in
    let below-v = m.in_range in
    let below-w = n.in_range in
    cond_both (is_single a && is_single b) _ _ (IsMember (and_of v w))
    (λ yes.
    let s = and_parts (is_single a) (is_single b) yes in
    member-one (and_of v w) (and_of a.lo b.lo)
    (ap₂ and_of (member_single v a (eqb-true a.stride 0 s.0) m) (member_single w b (eqb-true b.stride 0 s.1) n)))
    (λ _. cond_both (is_single b) _ _ (IsMember (and_of v w))
    (λ yes. let e = member_single w b (eqb-true b.stride 0 yes) n in rw e (member-under_mask a b.lo v (rw e at fits-w) ca m))
    (λ _. cond_both (is_single a) _ _ (IsMember (and_of v w))
    (λ yes. let e = member_single v a (eqb-true a.stride 0 yes) m in rw (e, and_of-comm a.lo w) (member-under_mask b a.lo w (rw e at fits-v) cb n))
    (λ _. cond_both (is_natural a && is_natural b) _ _ (IsMember (and_of v w))
    (λ yes.
    let s = and_parts (is_natural a) (is_natural b) yes in
    let low-a = s.0 in
    let low-b = s.1 in
    let within = and_of-natural v w (omega (arith, ints)) (omega (arith, ints)) fits-v fits-w in
    let within-0 = within.0 in
    let within-1 = within.1 in
    member-dense (pos 0) (int_min a.hi b.hi) (and_of v w) within.0 (omega (arith, ints, clamps)))
    (λ _. member_full (and_of v w) (and_of-fits v w fits-v)))))

-- ---- or and xor

-- 2^b, where n has b binary digits, is the least power of 2 above n
pub digits_above : (n : ℕ) → n < 2 ^ 31 → (n < 2 ^ (32 - leading_zeros w32 n)) × (32 - leading_zeros w32 n ≤ 31)
digits_above n h =
    let d = leading_length 32 n (omega arith) in
    let same : 32 - leading_zeros w32 n ≡ d.0 = let e = d.1 in omega arith in
    let above = d.2 in
    let tight = d.3 in (
      rw same above,
      rw same (⊎_elim (λ (lt : d.0 < 32). omega arith) (λ (ge : 32 ≤ d.0). let big : 2 ^ 32 ≤ 2 ^ d.0 = power_le 32 d.0 ge in absurd (omega arith)) (cases_lt d.0 32)),
    )

pub digits_least : (n k : ℕ) → n < 2 ^ 31 → n < 2 ^ k → 32 - leading_zeros w32 n ≤ k
digits_least n k h less =
    let d = leading_length 32 n (omega arith) in
    let same : 32 - leading_zeros w32 n ≡ d.0 = let e = d.1 in omega arith in
    let tight = d.3 in
    ⊎_elim
    (λ (more : k < 32 - leading_zeros w32 n).
    let big : 2 ^ (k + 1) ≤ 2 ^ d.0 = power_le (k + 1) d.0 (omega arith) in
    let double : 2 ^ (k + 1) ≡ 2 ^ k * 2 = pow-add 2 k 1 in absurd (omega arith))
    (λ (le : 32 - leading_zeros w32 n ≤ k). le)
    (cases_lt k (32 - leading_zeros w32 n))

within_digits : (n x y r : ℕ) → n < 2 ^ 31 → x ≤ n → y ≤ n → ((k : ℕ) → x < 2 ^ k → y < 2 ^ k → r < 2 ^ k) → IsMember (number r) (up_to (2 ^ (32 - leading_zeros w32 n) - 1))
within_digits n x y r h le-x le-y below =
    let above = (digits_above n h).0 in
    let most : 2 ^ (32 - leading_zeros w32 n) ≤ 2 ^ 31 = power_le (32 - leading_zeros w32 n) 31 (digits_above n h).1 in
    let less = below (32 - leading_zeros w32 n) (omega arith) (omega arith) in
    member-up_to (2 ^ (32 - leading_zeros w32 n) - 1) r (omega arith) (omega arith)

-- a number that stays below each power of 2 that both words stay below
pub member-within_bits : (a b : Interval) (v w : ℤ) (r : ℕ) → IsCanonical a → IsCanonical b → IsMember v a → IsMember w b
    → ((k : ℕ) → word v < 2 ^ k → word w < 2 ^ k → r < 2 ^ k) → IsMember (number r) (within_bits a b)
unfolding within_bits
member-within_bits a b v w r ca cb m n below =
    let fits-v = member_fits v a ca m in
    let fits-w = member_fits w b cb n in
    cond_both (is_natural a && is_natural b) _ _ (IsMember (number r))
    (λ yes.
    let s = and_parts (is_natural a) (is_natural b) yes in
    let low-a = s.0 in
    let low-b = s.1 in
    let above-v = member_above v a m in
    let above-w = member_above w b n in
    let below-v = m.in_range in
    let below-w = n.in_range in
    let is-v = word-natural v (omega (arith, ints)) in
    let is-w = word-natural w (omega (arith, ints)) in
    let is-top = abs-natural (int_max a.hi b.hi) (omega (arith, ints, clamps)) in
    let high-a = ca.high in
    let high-b = cb.high in
    let most : unsigned_abs (int_max a.hi b.hi) < 2 ^ 31 = omega (arith, ints, clamps) in
    within_digits (unsigned_abs (int_max a.hi b.hi)) (word v) (word w) r most (omega (arith, ints, clamps)) (omega (arith, ints, clamps)) below)
    (λ _. member_full (number r) (number_fits r (below 32 (word-lt v fits-v) (word-lt w fits-w))))

pub member-or : (a b : Interval) (v w : ℤ) → IsCanonical a → IsCanonical b → IsMember v a → IsMember w b → IsMember (or_of v w) (or a b)
unfolding or or_of
member-or a b v w ca cb m n =
    cond_both (is_single a && is_single b) _ _ (IsMember (or_of v w))
    (λ yes.
    let s = and_parts (is_single a) (is_single b) yes in
    member-one (or_of v w) (or_of a.lo b.lo)
    (ap₂ or_of (member_single v a (eqb-true a.stride 0 s.0) m) (member_single w b (eqb-true b.stride 0 s.1) n)))
    (λ _. member-within_bits a b v w (bit_or (word v) (word w)) ca cb m n (λ k. or_lt k (word v) (word w)))

pub member-xor : (a b : Interval) (v w : ℤ) → IsCanonical a → IsCanonical b → IsMember v a → IsMember w b → IsMember (xor_of v w) (xor a b)
unfolding xor xor_of
member-xor a b v w ca cb m n =
    cond_both (is_single a && is_single b) _ _ (IsMember (xor_of v w))
    (λ yes.
    let s = and_parts (is_single a) (is_single b) yes in
    member-one (xor_of v w) (xor_of a.lo b.lo)
    (ap₂ xor_of (member_single v a (eqb-true a.stride 0 s.0) m) (member_single w b (eqb-true b.stride 0 s.1) n)))
    (λ _. member-within_bits a b v w (bit_xor (word v) (word w)) ca cb m n (λ k. xor_lt k (word v) (word w)))

-- A member shifted right is a member of the interval shifted right.
use Rattle.std.proofs.Common.{◌≡◌, ℕ, suc, ◌+◌, ◌-◌, ◌*◌, ◌/◌, ◌%◌, ◌^◌, ◌<◌, ◌≤◌, arith, refl, ap, ◌∙◌, sym, ◌&&◌, ⊎_elim}
use Rattle.std.proofs.lemmas.Int.{ints}
use Rattle.std.proofs.lemmas.Bool.{cond_both, eqb-true, eqb-false, cases_lt, lt-ltb, le-ltb}
use Rattle.std.proofs.lemmas.Nat.{pow_pos, pow-add, shr_le, shr_below, mod_below}
use Rattle.std.proofs.Math.Nat.{mul-le-mul_right, pow-le-pow_right, div-one}
use Rattle.std.specs.Prelude.{ℤ, pos, negsuc, ◌≤ℤ◌, ◌+ℤ◌, unsigned_abs, FitsSigned, ◌==◌}
use Rattle.std.specs.Int.{int_shr, w32}
use Rattle.std.specs.Int.Signed.{shr_z}
use Rattle.strided.specs.Interval.{Interval, IsMember, IsCanonical}
use Rattle.strided.specs.Operations.{spaced}
use Rattle.strided.proofs.MemberLemmas.{member_above}
use Rattle.si_bits.specs.Concrete.{word, number, shr_of, sar_of, sar_word}
use Rattle.si_bits.specs.Operations.{shifted, shr, sar, is_single, is_natural}
use Rattle.si_bits.proofs.FloorLemmas.{mul_moved, IsFloor, floor_is, same_floor, shr-le}
use Rattle.si_bits.proofs.MemberLemmas.{member_single, member_fits, member-one, member-spaced, member-dense}
use Rattle.std.proofs.lemmas.Bool.{and_parts}
use Rattle.si_bits.proofs.SignLemmas.{number-low, number-high, number-word, word-lt}

-- numbers that add up to one less than p times m have quotients that add up to one less than p
pub complement_div : (p m x k : ℕ) → 0 < m → x + suc k ≡ p * m → x / m + suc (k / m) ≡ p
complement_div p m x k pos_m e =
    let split-x : x / m * m + x % m ≡ x = omega arith in
    let split-k : k / m * m + k % m ≡ k = omega arith in
    let rest-x = mod_below x m pos_m in
    let rest-k = mod_below k m pos_m in
    ⊎_elim
    (λ (less : p < x / m + suc (k / m)). let h = mul-le-mul_right m less in absurd (omega arith))
    (λ (up : x / m + suc (k / m) ≤ p).
    ⊎_elim
    (λ (more : x / m + suc (k / m) < p). let h = mul-le-mul_right m more in absurd (omega arith))
    (λ (le : p ≤ x / m + suc (k / m)). omega arith)
    (cases_lt (x / m + suc (k / m)) p))
    (cases_lt p (x / m + suc (k / m)))

sar_word-low : (n x : ℕ) → x < 2 ^ 31 → sar_word n x ≡ x / 2 ^ n
unfolding sar_word
sar_word-low n x h = rw (lt-ltb x (2 ^ 31) h) (omega arith)

pub power_le : (i j : ℕ) → i ≤ j → 2 ^ i ≤ 2 ^ j
power_le i j h = let two : 0 < 2 = omega arith in pow-le-pow_right two h

pub power_split : (n : ℕ) → n < 32 → 2 ^ (32 - n) * 2 ^ n ≡ 2 ^ 32
power_split n h = let e : (32 - n) + n ≡ 32 = omega arith in sym (pow-add 2 (32 - n) n) ∙ ap (λ (k : ℕ). 2 ^ k) e

-- the bits of a negative number shifted right, with ones from above
sar_word-high : (n x k : ℕ) → n < 32 → k < 2 ^ 31 → x + suc k ≡ 2 ^ 32 → sar_word n x + suc (k / 2 ^ n) ≡ 2 ^ 32
unfolding sar_word
sar_word-high n x k h low e =
    let high : 2 ^ 31 ≤ x = omega arith in
    let parts : x / 2 ^ n + suc (k / 2 ^ n) ≡ 2 ^ (32 - n) = complement_div (2 ^ (32 - n)) (2 ^ n) x k (pow_pos n) (e ∙ sym (power_split n h)) in
    let least : 2 ^ (32 - n) ≤ 2 ^ 32 = power_le (32 - n) 32 (omega arith) in
    rw (le-ltb x (2 ^ 31) high) (omega arith)

pub sar_of-is : (n : ℕ) (v : ℤ) → n < 32 → FitsSigned w32 v → sar_of n v ≡ int_shr v n
unfolding sar_of
sar_of-is n (pos x) h f =
    let fits : x < 2 ^ 31 = f.sfits in
    let less : x / 2 ^ n ≤ x = shr_le x n in
    ap number (sar_word-low n x fits) ∙ number-low (x / 2 ^ n) (omega arith)
sar_of-is n (negsuc k) h f =
    let fits : k < 2 ^ 31 = f.sfits in
    let less : k / 2 ^ n ≤ k = shr_le k n in
    number-high (sar_word n (2 ^ 32 - suc k)) (k / 2 ^ n) (omega arith) (sar_word-high n (2 ^ 32 - suc k) k h fits (omega arith))

-- where the stride is a multiple of m, quotients move by whole steps
pub shr-moved : (lo v : ℤ) (t s m : ℕ) → v ≡ (lo +ℤ pos (t * s)) → 0 < m → s % m ≡ 0 → shr_z v m ≡ (shr_z lo m +ℤ pos (t * (s / m)))
shr-moved lo v t s m at p e =
    let whole : s / m * m ≡ s = omega arith in
    let steps : t * (s / m * m) ≡ t * s = ap (λ (k : ℕ). t * k) whole in
    let f = floor_is lo m p in
    let split = f.split in
    let moved = mul_moved (shr_z lo m +ℤ pos (t * (s / m))) (shr_z lo m) (t * (s / m)) m refl in
    let g : IsFloor m v (shr_z lo m +ℤ pos (t * (s / m))) = record { rest = f.rest; below = f.below; split = omega (arith, ints) } in
    same_floor m v (shr_z v m) (shr_z lo m +ℤ pos (t * (s / m))) (floor_is v m p) g

pub member-shifted : (a : Interval) (n : ℕ) (v : ℤ) → IsMember v a → IsMember (int_shr v n) (shifted a n)
unfolding shifted
member-shifted a n v m =
    let above = shr-le a.lo v (2 ^ n) (pow_pos n) (member_above v a m) in
    let below = shr-le v a.hi (2 ^ n) (pow_pos n) m.in_range in
    cond_both (a.stride % 2 ^ n == 0 && unsigned_abs a.lo % 2 ^ n == 0) (a.stride / 2 ^ n) 1 (λ (s : ℕ). IsMember (int_shr v n) (spaced s (int_shr a.lo n) (int_shr a.hi n)))
    (λ yes.
    let s = and_parts (a.stride % 2 ^ n == 0) (unsigned_abs a.lo % 2 ^ n == 0) yes in
    member-spaced (a.stride / 2 ^ n) (int_shr a.lo n) (int_shr a.hi n) (int_shr v n) m.turns
    (shr-moved a.lo v m.turns a.stride (2 ^ n) m.reached (pow_pos n) (eqb-true (a.stride % 2 ^ n) 0 s.0)) below)
    (λ _. member-dense (int_shr a.lo n) (int_shr a.hi n) (int_shr v n) above below)

pub member-sar : (a : Interval) (n : ℕ) (v : ℤ) → n < 32 → IsCanonical a → IsMember v a → IsMember (sar_of n v) (sar a n)
unfolding sar
member-sar a n v h ca m =
    cond_both (is_single a) _ _ (IsMember (sar_of n v))
    (λ yes. member-one (sar_of n v) (sar_of n a.lo) (ap (sar_of n) (member_single v a (eqb-true a.stride 0 yes) m)))
    (λ _. rw (sar_of-is n v h (member_fits v a ca m)) (member-shifted a n v m))

-- shifted by nothing
shr_of-zero : (n : ℕ) (v : ℤ) → n ≡ 0 → FitsSigned w32 v → shr_of n v ≡ v
unfolding shr_of
shr_of-zero n v e f = rw e (ap number (div-one (word v)) ∙ number-word v f)

-- a number that is not negative moves as its word does
shr_of-natural : (n : ℕ) (v : ℤ) → pos 0 ≤ℤ v → FitsSigned w32 v → shr_of n v ≡ int_shr v n
unfolding shr_of
shr_of-natural n (pos x) h f =
    let fits : x < 2 ^ 31 = f.sfits in
    let less : x / 2 ^ n ≤ x = shr_le x n in
    number-low (x / 2 ^ n) (omega arith)
shr_of-natural n (negsuc k) h f = absurd (omega (arith, ints))

-- what is left of a word
shr_of-below : (n : ℕ) (v : ℤ) → 0 < n → n < 32 → FitsSigned w32 v → (pos 0 ≤ℤ shr_of n v) × (shr_of n v ≤ℤ pos (2 ^ (32 - n) - 1))
unfolding shr_of
shr_of-below n v some h f =
    let fits = word-lt v f in
    let split : (32 - n) + n ≡ 32 = omega arith in
    let left : word v / 2 ^ n < 2 ^ (32 - n) = shr_below (word v) (32 - n) n (rw split fits) in
    let most : 2 ^ (32 - n) ≤ 2 ^ 31 = power_le (32 - n) 31 (omega arith) in
    let is : shr_of n v ≡ pos (word v / 2 ^ n) = number-low (word v / 2 ^ n) (omega arith) in
    (omega (arith, ints), omega (arith, ints))

pub member-shr : (a : Interval) (n : ℕ) (v : ℤ) → n < 32 → IsCanonical a → IsMember v a → IsMember (shr_of n v) (shr a n)
unfolding shr
member-shr a n v h ca m =
    let fits = member_fits v a ca m in
    let above = member_above v a m in
    cond_both (is_single a) _ _ (IsMember (shr_of n v))
    (λ yes. member-one (shr_of n v) (shr_of n a.lo) (ap (shr_of n) (member_single v a (eqb-true a.stride 0 yes) m)))
    (λ _. cond_both (n == 0) _ _ (IsMember (shr_of n v))
    (λ none. rw (shr_of-zero n v (eqb-true n 0 none) fits) m)
    (λ some. cond_both (is_natural a) _ _ (IsMember (shr_of n v))
    (λ natural. rw (shr_of-natural n v (omega (arith, ints)) fits) (member-shifted a n v m))
    (λ _.
    let within = shr_of-below n v (omega (arith, eqb-false n 0 some)) h fits in
    member-dense (pos 0) (pos (2 ^ (32 - n) - 1)) (shr_of n v) within.0 within.1)))

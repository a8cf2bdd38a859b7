-- Words of 32 bits and the signed numbers that they stand for.
use Rattle.std.proofs.Common.{◌≡◌, ℕ, suc, ◌+◌, ◌-◌, ◌^◌, ◌<◌, arith, refl, ap, ◌∙◌, Fits, rules}
use Rattle.std.proofs.lemmas.Int.{ints, to_z_pos, of_z-to_z, to_z-of_z}
use Rattle.std.proofs.Math.Facts.{to_z-neg, sfits_to_z}
use Rattle.std.specs.Prelude.{ℤ, pos, negsuc, ◌≤ℤ◌, FitsSigned, unsigned_abs}
use Rattle.std.specs.Int.{w32, w64, cast_signed, cast_unsigned}
use Rattle.std.specs.Int.Signed.{mag}
use Rattle.strided.specs.Interval.{least, greatest}
use Rattle.si_bits.specs.Concrete.{word, number}

-- the sign bit is clear
pub number-low : (x : ℕ) → x < 2 ^ 31 → number x ≡ pos x
number-low x h = to_z_pos w32 x h

-- the sign bit is set
pub number-high : (x k : ℕ) → k < 2 ^ 31 → x + suc k ≡ 2 ^ 32 → number x ≡ negsuc k
number-high x k h e =
    let is : x ≡ 2 ^ 32 - suc k = omega arith in
    ap number is ∙ to_z-neg w32 k h

pub word-number : (x : ℕ) → x < 2 ^ 32 → word (number x) ≡ x
word-number x h = of_z-to_z w32 x h

pub number-word : (v : ℤ) → FitsSigned w32 v → number (word v) ≡ v
number-word v h = to_z-of_z w32 v h

pub word-lt : (v : ℤ) → FitsSigned w32 v → word v < 2 ^ 32
word-lt (pos n) h = omega (arith, h.sfits)
word-lt (negsuc n) h = omega (arith, h.sfits)

-- a word is a number from -2^31 to 2^31 - 1
pub fits_between : (v : ℤ) → least ≤ℤ v → v ≤ℤ greatest → FitsSigned w32 v
fits_between v l h = omega (arith, ints)

pub between_fits : (v : ℤ) → FitsSigned w32 v → (least ≤ℤ v) × (v ≤ℤ greatest)
between_fits v h = (omega (arith, ints), omega (arith, ints))

pub number_fits : (x : ℕ) → x < 2 ^ 32 → FitsSigned w32 (number x)
number_fits x h = let fits : Fits w32 x = search rules in sfits_to_z fits

-- a number that is not negative is its word, and its distance from 0
pub word-natural : (v : ℤ) → pos 0 ≤ℤ v → pos (word v) ≡ v
word-natural (pos n) h = refl
word-natural (negsuc n) h = absurd (omega (arith, ints))

pub abs-natural : (v : ℤ) → pos 0 ≤ℤ v → pos (unsigned_abs v) ≡ v
abs-natural (pos n) h = refl
abs-natural (negsuc n) h = absurd (omega (arith, ints))

-- what a passed number is
pub plain_32 : {z x : ℤ} → mag z < 2 ^ 31 → z ≡ x → cast_signed w32 (cast_unsigned w32 z) ≡ x
plain_32 {z} h e = to_z-of_z w32 z (record { sfits = h }) ∙ e

pub plain_64 : {z x : ℤ} → mag z < 2 ^ 63 → z ≡ x → cast_signed w64 (cast_unsigned w64 z) ≡ x
plain_64 {z} h e = to_z-of_z w64 z (record { sfits = h }) ∙ e

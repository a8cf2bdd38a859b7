-- What the operations on signed numbers are on the words that stand for them.
use Rattle.std.proofs.Common.{◌≡◌, ℕ, ◌*◌, ◌/◌, ◌%◌, ◌^◌, ◌<◌, ap, ap₂}
use Rattle.std.specs.Prelude.{bit_and, bit_or, bit_xor}
use Rattle.si_bits.specs.Concrete.{number, and_of, or_of, xor_of, product_of, shl_of, shr_of, sar_of, sar_word, low_of, extension_of, extended_word}
use Rattle.si_bits.proofs.SignLemmas.{word-number}

pub and_of-number : (x y : ℕ) → x < 2 ^ 32 → y < 2 ^ 32 → and_of (number x) (number y) ≡ number (bit_and x y)
unfolding and_of
and_of-number x y h k = ap₂ (λ (m n : ℕ). number (bit_and m n)) (word-number x h) (word-number y k)

pub or_of-number : (x y : ℕ) → x < 2 ^ 32 → y < 2 ^ 32 → or_of (number x) (number y) ≡ number (bit_or x y)
unfolding or_of
or_of-number x y h k = ap₂ (λ (m n : ℕ). number (bit_or m n)) (word-number x h) (word-number y k)

pub xor_of-number : (x y : ℕ) → x < 2 ^ 32 → y < 2 ^ 32 → xor_of (number x) (number y) ≡ number (bit_xor x y)
unfolding xor_of
xor_of-number x y h k = ap₂ (λ (m n : ℕ). number (bit_xor m n)) (word-number x h) (word-number y k)

pub product_of-number : (x y : ℕ) → x < 2 ^ 32 → y < 2 ^ 32 → product_of (number x) (number y) ≡ number (x * y % 2 ^ 32)
unfolding product_of
product_of-number x y h k = ap₂ (λ (m n : ℕ). number (m * n % 2 ^ 32)) (word-number x h) (word-number y k)

pub shl_of-number : (n x : ℕ) → x < 2 ^ 32 → shl_of n (number x) ≡ number (x * 2 ^ n % 2 ^ 32)
unfolding shl_of
shl_of-number n x h = ap (λ (m : ℕ). number (m * 2 ^ n % 2 ^ 32)) (word-number x h)

pub shr_of-number : (n x : ℕ) → x < 2 ^ 32 → shr_of n (number x) ≡ number (x / 2 ^ n)
unfolding shr_of
shr_of-number n x h = ap (λ (m : ℕ). number (m / 2 ^ n)) (word-number x h)

pub sar_of-number : (n x : ℕ) → x < 2 ^ 32 → sar_of n (number x) ≡ number (sar_word n x)
unfolding sar_of
sar_of-number n x h = ap (λ (m : ℕ). number (sar_word n m)) (word-number x h)

pub low_of-number : (w x : ℕ) → x < 2 ^ 32 → low_of w (number x) ≡ number (x % 2 ^ w)
unfolding low_of
low_of-number w x h = ap (λ (m : ℕ). number (m % 2 ^ w)) (word-number x h)

pub extension_of-number : (w x : ℕ) → x < 2 ^ 32 → extension_of w (number x) ≡ number (extended_word w x)
unfolding extension_of
extension_of-number w x h = ap (λ (m : ℕ). number (extended_word w m)) (word-number x h)

-- Single bits of words.
use Rattle.std.proofs.Common.{◌≡◌, ◌≢◌, ◌⊎◌, ℕ, ◌*◌, ◌^◌, ◌%◌, ◌<◌, min, max, sym, ◌∙◌, subst, arith}
use Rattle.std.specs.Prelude.{bit_or, bit_and}
use Rattle.std.specs.Int.{bit_at, trailing_zeros, w64}
use Rattle.std.proofs.lemmas.Nat.Bits.{bit_at_or, bit_at_and, bit_at-zero, bit_at-lt, bit_at_set_same, bit_at_set_other, bit_at-trailing_zeros}
use Rattle.flow_graph.specs.Rows.{IsBit}

max_one : (a b : ℕ) → max a b ≡ 1 → a < 2 → b < 2 → (a ≡ 1) ⊎ (b ≡ 1)
max_one a b is la lb = grind arith

zero_one : (n : ℕ) → n ≡ 0 → n ≢ 1
zero_one n none is = absurd (omega arith)

pub IsBit-zero : (k : ℕ) → ¬ IsBit 0 k
unfolding IsBit
IsBit-zero k is = zero_one (bit_at 0 k) (bit_at-zero k) is

pub bit_or-cases : (a b k : ℕ) → IsBit (bit_or a b) k → IsBit a k ⊎ IsBit b k
unfolding IsBit
bit_or-cases a b k is = max_one (bit_at a k) (bit_at b k) (sym (bit_at_or a b k) ∙ is) (bit_at-lt a k) (bit_at-lt b k)

one_max : (a b : ℕ) → a ≡ 1 → b < 2 → max a b ≡ 1
one_max a b is lb = omega arith

max_right : (a b : ℕ) → b ≡ 1 → a < 2 → max a b ≡ 1
max_right a b is la = omega arith

pub bit_or-left : (a b k : ℕ) → IsBit a k → IsBit (bit_or a b) k
unfolding IsBit
bit_or-left a b k is = bit_at_or a b k ∙ one_max (bit_at a k) (bit_at b k) is (bit_at-lt b k)

pub bit_or-right : (a b k : ℕ) → IsBit b k → IsBit (bit_or a b) k
unfolding IsBit
bit_or-right a b k is = bit_at_or a b k ∙ max_right (bit_at a k) (bit_at b k) is (bit_at-lt a k)

min_left : (a b : ℕ) → min a b ≡ 1 → a < 2 → b < 2 → (a ≡ 1) × (b ≡ 1)
min_left a b is la lb = (omega arith, omega arith)

pub bit_and-both : (a b k : ℕ) → IsBit (bit_and a b) k → IsBit a k × IsBit b k
unfolding IsBit
bit_and-both a b k is = min_left (bit_at a k) (bit_at b k) (sym (bit_at_and a b k) ∙ is) (bit_at-lt a k) (bit_at-lt b k)

min_one : (a b : ℕ) → a ≡ 1 → b ≡ 1 → min a b ≡ 1
min_one a b one two = omega arith

pub bit_and-from : (a b k : ℕ) → IsBit a k → IsBit b k → IsBit (bit_and a b) k
unfolding IsBit
bit_and-from a b k one two = bit_at_and a b k ∙ min_one (bit_at a k) (bit_at b k) one two

-- a word with bit k set as well
pub set_bit-same : (a k : ℕ) → k < 64 → IsBit (bit_or a (1 * 2 ^ k % 2 ^ 64)) k
unfolding IsBit
set_bit-same a k within = bit_at_set_same w64 a k within

pub set_bit-other : (a k i : ℕ) → k < 64 → i ≢ k → IsBit (bit_or a (1 * 2 ^ k % 2 ^ 64)) i → IsBit a i
unfolding IsBit
set_bit-other a k i within other is = sym (bit_at_set_other w64 a k within i other) ∙ is

-- a word that isn't 0 has a bit
pub some_bit : (a : ℕ) → a < 2 ^ 64 → a ≢ 0 → (k : ℕ) × IsBit a k
unfolding IsBit
some_bit a fits other = let lowest = bit_at-trailing_zeros w64 a (omega arith) fits in (trailing_zeros w64 a, lowest.1)

pub not_zero : (a k : ℕ) → IsBit a k → a ≢ 0
not_zero a k is none = IsBit-zero k (subst (λ w. IsBit w k) none is)

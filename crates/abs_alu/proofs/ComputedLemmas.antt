-- What the processor gives lies within the width, and at 32 bits is what the operations on numbers say.

use Rattle.std.proofs.Common.{◌≡◌, ℕ, suc, ◌+◌, ◌-◌, ◌*◌, ◌/◌, ◌%◌, ◌^◌, ◌<◌, ◌≤◌, ◌&&◌, Bool, true, false, cond, refl, sym, ◌∙◌, ap, arith, inl, inr, lit<}
use Rattle.std.specs.Prelude.{nat_le, nat_lt, bit_and}
use Rattle.std.proofs.lemmas.Bool.{cond_both, leb-true, leb-false, ltb-true, ltb-false}
use Rattle.std.proofs.lemmas.Nat.{or_lt, xor_lt, and_le_l, mul-mod}
use Rattle.std.proofs.lemmas.Nat.Gcd.{dvd_of_mod-eq-zero}
use Rattle.std.proofs.Math.Nat.{mod-lt, one-le-pow, div-le_self, mod-mod_of_dvd}
use Rattle.si_bits.specs.Concrete.{sar_word}
use Rattle.si_bits.proofs.ShiftLemmas.{complement_div, power_split, power_le}
use Rattle.ia32_types.specs.declared.Op.{Op}
use Rattle.ia32_semantics.specs.Alu.{sum, difference, sign, alu_value}
use Rattle.ia32_semantics.specs.Shift.{shifted_left, shifted_right, shifted_signed, rotated_left, rotated_right, masked, shift_by, shift_value}
use Rattle.ia32_semantics.specs.Product.{extended, product, product_low}
use Rattle.ia32_alu.specs.Widths.{IsWidth}
use Rattle.ia32_alu.proofs.WidthLemmas.{turned_below}
use Rattle.abs_alu.specs.Computed.{is_computed, computed}
use Rattle.abs_alu.proofs.OpLemmas.{each_op}

-- -- Within the width

width_some : (w : ℕ) → IsWidth w → 0 < w
width_some w (inl e) = omega arith
width_some w (inr (inl e)) = omega arith
width_some w (inr (inr e)) = omega arith

module _ (w : ℕ) (is : IsWidth w) where
  some : 0 < 2 ^ w
  some = one-le-pow w 2 (lit< tt)

  sum_below : (a b : ℕ) (c : Bool) → sum w a b c < 2 ^ w
  unfolding sum
  sum_below a b c = mod-lt _ some

  difference_below : (a b : ℕ) (c : Bool) → difference w a b c < 2 ^ w
  unfolding difference
  difference_below a b c = mod-lt _ some

  low_below : (signed : Bool) (a b : ℕ) → product_low w signed a b < 2 ^ w
  unfolding product_low
  low_below signed a b = mod-lt _ some

  left_below : (a n : ℕ) → shifted_left w a n < 2 ^ w
  unfolding shifted_left
  left_below a n = mod-lt _ some

  right_below : (a n : ℕ) → a < 2 ^ w → shifted_right a n < 2 ^ w
  unfolding shifted_right
  right_below a n lt = let le : a / 2 ^ n ≤ a = div-le_self a (2 ^ n) in omega arith

  signed_below : (a n : ℕ) → a < 2 ^ w → shifted_signed w a n < 2 ^ w
  unfolding shifted_signed
  signed_below a n lt =
      let le : a / 2 ^ n ≤ a = div-le_self a (2 ^ n) in
      let have : 0 < 2 ^ w = some in
      cond_both (sign w a) _ _ (λ v. v < 2 ^ w) (λ _. omega arith) (λ _. omega arith)

  turned_left_below : (a n : ℕ) → a < 2 ^ w → rotated_left w a n < 2 ^ w
  unfolding rotated_left
  turned_left_below a n lt = let few : n % w < w = mod-lt n (width_some w is) in turned_below w a (n % w) lt (omega arith)

  turned_right_below : (a n : ℕ) → a < 2 ^ w → rotated_right w a n < 2 ^ w
  unfolding rotated_right
  turned_right_below a n lt =
      let few : n % w < w = mod-lt n (width_some w is) in
      let back : w - (w - n % w) ≡ n % w = omega arith in
      let both : a * 2 ^ (w - n % w) % 2 ^ w + a / 2 ^ (w - (w - n % w)) < 2 ^ w = turned_below w a (w - n % w) lt (omega arith) in
      let same : a / 2 ^ (w - (w - n % w)) ≡ a / 2 ^ (n % w) = ap (λ v. a / 2 ^ v) back in
      omega arith

  and_below : (a b : ℕ) → a < 2 ^ w → bit_and a b < 2 ^ w
  and_below a b lt = let le : bit_and a b ≤ a = and_le_l a b in omega arith

  not_below : (a : ℕ) → 2 ^ w - 1 - a < 2 ^ w
  not_below a = let have : 0 < 2 ^ w = some in omega arith

  pub computed_below : (m n : ℕ) (c : Bool) → m < 2 ^ w → n < 2 ^ w → (o : Op) → is_computed o ≡ true → computed w o m n c < 2 ^ w
  unfolding computed alu_value shift_value shift_by
  computed_below m n c lm ln =
      each_op (λ o. computed w o m n c < 2 ^ w)
      (sum_below m n false) (or_lt w m n lm ln) (sum_below m n c) (difference_below m n c) (and_below m n lm)
      (difference_below m n false) (xor_lt w m n lm ln) (difference_below m n false) (and_below m n lm)
      (sum_below m 1 false) (difference_below m 1 false) (not_below m) (difference_below 0 m false)
      (low_below false m n) (low_below true m n)
      (left_below m (masked n)) (right_below m (masked n) lm) (signed_below m (masked n) lm) (turned_left_below m (masked n) lm) (turned_right_below m (masked n) lm)

-- -- At 32 bits

pub sar_is : (n x : ℕ) → n < 32 → x < 4294967296 → sar_word n x ≡ shifted_signed 32 x n
unfolding sar_word shifted_signed sign
sar_is n x few lt =
    cond_both (nat_lt x 2147483648) 0 (4294967296 - 2 ^ (32 - n)) (λ v. x / 2 ^ n + v ≡ cond (nat_le 2147483648 x) (4294967296 - 1 - (4294967296 - 1 - x) / 2 ^ n) (x / 2 ^ n))
    (λ low.
    cond_both (nat_le 2147483648 x) (4294967296 - 1 - (4294967296 - 1 - x) / 2 ^ n) (x / 2 ^ n) (λ v. x / 2 ^ n + 0 ≡ v)
    (λ high. let h : 2147483648 ≤ x = leb-true 2147483648 x high in let l : x < 2147483648 = ltb-true x 2147483648 low in absurd (omega arith))
    (λ _. omega arith))
    (λ high.
    let h : 2147483648 ≤ x = ltb-false x 2147483648 high in
    let k : ℕ = 4294967296 - 1 - x in
    let whole : 2 ^ (32 - n) * 2 ^ n ≡ 4294967296 = power_split n few in
    let sum : x + suc k ≡ 2 ^ (32 - n) * 2 ^ n = omega arith in
    let parts : x / 2 ^ n + suc (k / 2 ^ n) ≡ 2 ^ (32 - n) = complement_div (2 ^ (32 - n)) (2 ^ n) x k (one-le-pow n 2 (lit< tt)) sum in
    let most : 2 ^ (32 - n) ≤ 2 ^ 32 = power_le (32 - n) 32 (omega arith) in
    cond_both (nat_le 2147483648 x) (4294967296 - 1 - (4294967296 - 1 - x) / 2 ^ n) (x / 2 ^ n) (λ v. x / 2 ^ n + (4294967296 - 2 ^ (32 - n)) ≡ v)
    (λ _. omega arith)
    (λ low. let l : x < 2147483648 = leb-false 2147483648 x low in absurd (omega arith)))

same_low : (signed : Bool) (a : ℕ) → extended signed 32 64 a % 4294967296 ≡ a % 4294967296
unfolding extended
same_low signed a =
    cond_both (signed && sign 32 a) (a + 18446744073709551616 - 4294967296) a (λ v. v % 4294967296 ≡ a % 4294967296)
    (λ _. omega arith)
    (λ _. refl)

pub product_low_is : (signed : Bool) (a b : ℕ) → product_low 32 signed a b ≡ a * b % 4294967296
unfolding product_low product
product_low_is signed a b =
    let x : ℕ = extended signed 32 64 a in
    let y : ℕ = extended signed 32 64 b in
    mod-mod_of_dvd 4294967296 (x * y) (dvd_of_mod-eq-zero 4294967296 refl)
    ∙ mul-mod x y 4294967296
    ∙ ap (λ v. v * (y % 4294967296) % 4294967296) (same_low signed a)
    ∙ ap (λ v. a % 4294967296 * v % 4294967296) (same_low signed b)
    ∙ sym (mul-mod a b 4294967296)

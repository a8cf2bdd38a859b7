-- Numbers of a width under shifts and products.

use Rattle.std.proofs.Common.{◌≡◌, ℕ, ◌+◌, ◌-◌, ◌*◌, ◌/◌, ◌%◌, ◌^◌, ◌<◌, ◌≤◌, sym, ◌∙◌, ap, subst, arith, inl, inr, lit<}
use Rattle.std.proofs.lemmas.Nat.{pow-add, mod-pow-add}
use Rattle.std.proofs.Math.Nat.{pow-le-pow_right, one-le-pow, mul-le-mul, mul-le-mul_right, mul-div_left, mul-mod_left, div-le_self, div-lt_iff_lt-mul}
use Rattle.ia32_alu.specs.Widths.{IsWidth}

-- what holds of each width
by_width : (P : ℕ → Type 0) → P 8 → P 16 → P 32 → (w : ℕ) → IsWidth w → P w
by_width P byte word dword w (inl e) = subst P (sym e) byte
by_width P byte word dword w (inr (inl e)) = subst P (sym e) word
by_width P byte word dword w (inr (inr e)) = subst P (sym e) dword

-- a number of 32 bits moved up by 32 at most fits 64 bits
pub scaled_fits : (a n : ℕ) → a < 2 ^ 32 → n ≤ 32 → a * 2 ^ n % 2 ^ 64 ≡ a * 2 ^ n
scaled_fits a n lt few =
    let most : a ≤ 2 ^ 32 - 1 = omega arith in
    let power : 2 ^ n ≤ 2 ^ 32 = pow-le-pow_right (lit< tt) few in
    let product : a * 2 ^ n ≤ (2 ^ 32 - 1) * 2 ^ 32 = mul-le-mul most power in
    omega arith

pub halved_below : (a n : ℕ) → a / 2 ^ n ≤ a
halved_below a n = div-le_self a (2 ^ n)

-- what is moved out above comes back below
turned_sum : (a p k : ℕ) → a / p < k → 0 < p → a % p * k + a / p < p * k
turned_sum a p k q some =
    let r : a % p + 1 ≤ p = omega arith in
    let product : (a % p + 1) * k ≤ p * k = mul-le-mul_right k r in
    omega arith

pub turned_below : (w a n : ℕ) → a < 2 ^ w → n ≤ w → a * 2 ^ n % 2 ^ w + a / 2 ^ (w - n) < 2 ^ w
turned_below w a n lt few =
    let m : ℕ = w - n in
    let e : w ≡ m + n = omega arith in
    let whole : 2 ^ w ≡ 2 ^ m * 2 ^ n = ap (λ v. 2 ^ v) e ∙ pow-add 2 m n in
    let below : a < 2 ^ m * 2 ^ n = subst (λ v. a < v) whole lt in
    let some : 0 < 2 ^ m = one-le-pow m 2 (lit< tt) in
    let above : a / 2 ^ m < 2 ^ n = (div-lt_iff_lt-mul some).1 (omega arith) in
    let moved : a * 2 ^ n % 2 ^ w ≡ a % 2 ^ m * 2 ^ n =
    ap (λ v. a * 2 ^ n % 2 ^ v) e
    ∙ mod-pow-add (a * 2 ^ n) m n
    ∙ ap (λ v. v % 2 ^ m * 2 ^ n + a * 2 ^ n % 2 ^ n) (mul-div_left a (one-le-pow n 2 (lit< tt)))
    ∙ ap (λ v. a % 2 ^ m * 2 ^ n + v) (mul-mod_left a (2 ^ n))
    ∙ omega arith in
    let sum : a % 2 ^ m * 2 ^ n + a / 2 ^ m < 2 ^ m * 2 ^ n = turned_sum a (2 ^ m) (2 ^ n) above some in
    subst (λ v. a * 2 ^ n % 2 ^ w + a / 2 ^ m < v) (sym whole) (subst (λ v. v + a / 2 ^ m < 2 ^ m * 2 ^ n) (sym moved) sum)

pub double_of_wrapped : (w v : ℕ) → IsWidth w → v % 2 ^ 64 % 2 ^ (2 * w) ≡ v % 2 ^ (2 * w)
double_of_wrapped w v is = by_width (λ w. v % 2 ^ 64 % 2 ^ (2 * w) ≡ v % 2 ^ (2 * w)) (omega arith) (omega arith) (omega arith) w is

pub high_part_below : (w v : ℕ) → IsWidth w → v < 2 ^ (2 * w) → v / 2 ^ w < 2 ^ w
high_part_below w v = by_width (λ w. v < 2 ^ (2 * w) → v / 2 ^ w < 2 ^ w) (λ lt. omega arith) (λ lt. omega arith) (λ lt. omega arith) w

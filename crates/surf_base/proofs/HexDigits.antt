-- Eight digits tell a number of 32 bits.
use Rattle.std.proofs.Common.{◌≡◌, ℕ, ◌*◌, ◌/◌, ◌%◌, ◌^◌, ◌<◌, length, refl, arith, lit<}
use Rattle.std.proofs.Math.Nat.{div-div-eq-div-mul}
use Rattle.std.proofs.lemmas.Bool.Decides.{nat_tests}
use Rattle.surf_base.specs.Hex.{hex_digit, hex8_text}

-- two digits are two characters
pub hex_digit-injective : (a b : ℕ) → a < 16 → b < 16 → hex_digit a ≡ hex_digit b → a ≡ b
hex_digit-injective a b la lb same = grind (arith, nat_tests)

pub length-hex8_text : (value : ℕ) → length (hex8_text value) ≡ 8
unfolding hex8_text
length-hex8_text value = refl

-- one more digit: what stands above it is known, and so is it
one_more : (a b above below : ℕ) → above ≡ below * 16 → 0 < below → a / above ≡ b / above → hex_digit (a / below % 16) ≡ hex_digit (b / below % 16)
    → a / below ≡ b / below
one_more a b above below is positive quotients digits =
    let same : a / below % 16 ≡ b / below % 16 = hex_digit-injective _ _ (omega arith) (omega arith) digits in
    let left : a / below / 16 ≡ a / above = rw (is, div-div-eq-div-mul a below 16) refl in
    let right : b / below / 16 ≡ b / above = rw (is, div-div-eq-div-mul b below 16) refl in
    omega arith

-- two numbers have two texts
pub hex8_text-injective : (a b : ℕ) → a < 2 ^ 32 → b < 2 ^ 32 → hex8_text a ≡ hex8_text b → a ≡ b
unfolding hex8_text
hex8_text-injective a b la lb same =
    let e8 : a / 0x100000000 ≡ b / 0x100000000 = omega arith in
    let e7 : a / 0x10000000 ≡ b / 0x10000000 = one_more a b 0x100000000 0x10000000 refl (lit< tt) e8 cc in
    let e6 : a / 0x1000000 ≡ b / 0x1000000 = one_more a b 0x10000000 0x1000000 refl (lit< tt) e7 cc in
    let e5 : a / 0x100000 ≡ b / 0x100000 = one_more a b 0x1000000 0x100000 refl (lit< tt) e6 cc in
    let e4 : a / 0x10000 ≡ b / 0x10000 = one_more a b 0x100000 0x10000 refl (lit< tt) e5 cc in
    let e3 : a / 0x1000 ≡ b / 0x1000 = one_more a b 0x10000 0x1000 refl (lit< tt) e4 cc in
    let e2 : a / 0x100 ≡ b / 0x100 = one_more a b 0x1000 0x100 refl (lit< tt) e3 cc in
    let e1 : a / 0x10 ≡ b / 0x10 = one_more a b 0x100 0x10 refl (lit< tt) e2 cc in
    let digit : a % 16 ≡ b % 16 = hex_digit-injective _ _ (omega arith) (omega arith) cc in
    omega arith

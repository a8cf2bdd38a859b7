-- Digits and what they write.
use Rattle.std.proofs.lemmas.Bool.{cond_both, ltb-true, lt-ltb, leb-true, le-leb}
use Rattle.std.proofs.Common.{◌≡◌, ◌≢◌, ℕ, suc, ◌+◌, ◌*◌, ◌^◌, ◌<◌, ◌≤◌, ◌&&◌, nat_lt, nat_le, Bool, true, false, List, [], ◌∷◌, length, get_or, Some, None, Result, Ok, Err, refl, sym, ◌∙◌, ap, subst, arith}
use Rattle.std.specs.Option.{IfSome}
use Rattle.std.specs.Result.{result_ok}
use Rattle.std.specs.Char.{digit_value}
use Rattle.std.specs.List.{list_all}
use Rattle.std.specs.Str.Parse.{IsNumeral, AllDigits, digits_value, digits_value_after, ParsesUnsigned}
use Rattle.std.proofs.lemmas.Str.Parse.{without_leading_plus_none}
use Rattle.std.proofs.Math.Nat.{mul-le-mul_left, mul-le-mul_right, pow-succ', pow-le-pow_right}
use Rattle.command_words.specs.Values.{numeral}

abbrev is_digit : ℕ → ℕ → Bool
is_digit base digit = nat_lt (digit_value digit) base

-- digits of a base up to 16, after n, write less than (n + 1) * 16 ^ their number
value_below : (base n : ℕ) (ds : List ℕ) → base ≤ 16 → AllDigits base ds → digits_value_after base n ds + 1 ≤ (n + 1) * 16 ^ length ds
value_below base n [] low all = omega arith
value_below base n (d ∷ ds) low all =
    let rest = value_below base (n * base + digit_value d) ds low all.1 in
    let digit = all.0 in
    let grown : n * base ≤ n * 16 = mul-le-mul_left n low in
    let first : n * base + digit_value d + 1 ≤ (n + 1) * 16 = omega arith in
    let most : (n * base + digit_value d + 1) * 16 ^ length ds ≤ (n + 1) * 16 * 16 ^ length ds = mul-le-mul_right (16 ^ length ds) first in
    let power : 16 ^ suc (length ds) ≡ 16 * 16 ^ length ds = pow-succ' 16 (length ds) in
    let product : (n + 1) * 16 ^ suc (length ds) ≡ (n + 1) * (16 * 16 ^ length ds) = ap (λ x. (n + 1) * x) power in
    omega arith

-- what at most this many digits write
short_value : (base most : ℕ) (ds : List ℕ) → base ≤ 16 → AllDigits base ds → length ds ≤ most → digits_value base ds < 16 ^ most
short_value base most ds low all short =
    let below : digits_value base ds + 1 ≤ (0 + 1) * 16 ^ length ds = value_below base 0 ds low all in
    let power : 16 ^ length ds ≤ 16 ^ most = pow-le-pow_right {n = 16} (omega arith) short in
    omega arith

small_power : (most : ℕ) → most ≤ 10 → 16 ^ most < 2 ^ 64
small_power most few = let power : 16 ^ most ≤ 16 ^ 10 = pow-le-pow_right {n = 16} (omega arith) few in omega arith

two_pass : (a b : Bool) → (a && b) ≡ true → (a ≡ true) × (b ≡ true)
two_pass true true h = (refl, refl)
two_pass true false h = absurd (cc)
two_pass false b h = absurd (cc)

-- the test of digits says that they are
all_digits : (base : ℕ) (ds : List ℕ) → list_all (is_digit base) ds ≡ true → AllDigits base ds
all_digits base [] h = tt
all_digits base (d ∷ ds) h =
    let passed = two_pass (is_digit base d) (list_all (is_digit base) ds) h in
    (ltb-true (digit_value d) base passed.0, all_digits base ds passed.1)

digits_pass : (base : ℕ) (ds : List ℕ) → AllDigits base ds → list_all (is_digit base) ds ≡ true
digits_pass base [] h = refl
digits_pass base (d ∷ ds) h = rw (lt-ltb (digit_value d) base h.0) (digits_pass base ds h.1)

-- a numeral is read as its value
numeral_value : (base most : ℕ) (ds : List ℕ) → 0 < length ds → length ds ≤ most → AllDigits base ds → numeral base most ds ≡ Some (digits_value base ds)
numeral_value base most ds some short all = rw (lt-ltb 0 (length ds) some, le-leb (length ds) most short, digits_pass base ds all) refl

-- three tests that all pass
three_pass : (a b c : Bool) → (a && (b && c)) ≡ true → (a ≡ true) × (b ≡ true) × (c ≡ true)
three_pass true true true h = (refl, refl, refl)
three_pass true true false h = absurd (cc)
three_pass true false c h = absurd (cc)
three_pass false b c h = absurd (cc)

-- what is no numeral isn't read
no_numeral : (base most : ℕ) (ds : List ℕ) → (0 < length ds → length ds ≤ most → AllDigits base ds → ⊥) → numeral base most ds ≡ None
no_numeral base most ds never = cond_both (nat_lt 0 (length ds) && (nat_le (length ds) most && list_all (is_digit base) ds)) (Some (digits_value base ds)) None (λ o. o ≡ None)
    (λ yes. let passed = three_pass (nat_lt 0 (length ds)) (nat_le (length ds) most) (list_all (is_digit base) ds) yes in
    absurd (never (ltb-true 0 (length ds) passed.0) (leb-true (length ds) most passed.1) (all_digits base ds passed.2)))
    (λ fails. refl)

-- too many digits are no numeral, nor are any after a plus
pub long_numeral : (base most : ℕ) (ds : List ℕ) → most < length ds → numeral base most ds ≡ None
long_numeral base most ds long = no_numeral base most ds (λ some short all. omega arith)

-- a numeral begins with no plus
no_plus : (base : ℕ) (ds : List ℕ) → base ≤ 16 → 0 < length ds → AllDigits base ds → get_or ds 0 0 ≢ 43
no_plus base [] low some all = absurd (omega (arith, some))
no_plus base (d ∷ ds) low some all = λ plus. let digit : digit_value 43 < base = subst (λ c. digit_value c < base) plus all.0 in absurd (omega arith)

pub signed_numeral : (base most : ℕ) (ds : List ℕ) → base ≤ 16 → get_or ds 0 0 ≡ 43 → numeral base most ds ≡ None
signed_numeral base most ds low plus = no_numeral base most ds (λ some short all. no_plus base ds low some all plus)

-- what `from_str_radix` reads of at most this many characters without a plus
pub read_numeral : {E : Type 0} (base most : ℕ) (ds : List ℕ) (r : Result ℕ E) → base ≤ 16 → most ≤ 10 → length ds ≤ most → get_or ds 0 0 ≢ 43 → ParsesUnsigned 64 base ds r → result_ok r ≡ numeral base most ds
read_numeral base most ds (Ok n) low few short plain parses =
    let same = without_leading_plus_none ds plain in
    let numeral_is : IsNumeral base ds = subst (λ bs. IsNumeral base bs) same parses.0.0 in
    let value : n ≡ digits_value base ds = parses.1 ∙ ap (λ bs. digits_value base bs) same in
    ap Some value ∙ sym (numeral_value base most ds numeral_is.0 short numeral_is.1)
read_numeral base most ds (Err e) low few short plain parses =
    let same = without_leading_plus_none ds plain in
    sym (no_numeral base most ds (λ some fits all.
    let small : digits_value base ds < 2 ^ 64 = omega (arith, short_value base most ds low all fits, small_power most few) in
    parses (subst (λ bs. IsNumeral base bs) (sym same) (some, all), subst (λ bs. digits_value base bs < 2 ^ 64) (sym same) small)))

-- a numeral of few digits is small
pub numeral_below : (base most : ℕ) (ds : List ℕ) → base ≤ 16 → IfSome (numeral base most ds) (λ value. value < 16 ^ most)
numeral_below base most ds low = cond_both (nat_lt 0 (length ds) && (nat_le (length ds) most && list_all (is_digit base) ds)) (Some (digits_value base ds)) None (λ o. IfSome o (λ value. value < 16 ^ most))
    (λ yes. let passed = three_pass (nat_lt 0 (length ds)) (nat_le (length ds) most) (list_all (is_digit base) ds) yes in
    short_value base most ds low (all_digits base ds passed.2) (leb-true (length ds) most passed.1))
    (λ fails. tt)

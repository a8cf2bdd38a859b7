-- Hexadecimal digits, one after another.
use Rattle.std.proofs.Common.{◌≡◌, ℕ, zero, suc, ◌+◌, ◌*◌, ◌^◌, ◌<◌, ◌≤◌, Bool, true, false, cond, ◌&&◌, ltb, Option, Some, None, List, [], ◌∷◌, length, refl, sym, ◌∙◌, subst, ⊎_elim, lt-ltb, le-leb, arith}
use Rattle.std.specs.Prelude.{nat_lt, nat_le}
use Rattle.std.specs.List.{list_all}
use Rattle.std.specs.Char.{digit_value}
use Rattle.std.specs.Str.Parse.{digits_value_after}
use Rattle.std.proofs.Math.Nat.{one-le-pow, pow-le-pow_right, pow-succ', mul-le-mul_left}
use Rattle.std.proofs.lemmas.Bool.{le-ltb, lt-leb, cases_lt, cond-false, and_left, and_right}
use Rattle.requests.specs.Words.{address}

abbrev is_digit : ℕ → Bool
is_digit digit = nat_lt (digit_value digit) 16

-- what digits write when they follow those of n, if all are digits
abbrev pub written_after : ℕ → List ℕ → Option ℕ
written_after n digits = cond (list_all is_digit digits) (Some (digits_value_after 16 n digits)) None

-- The digits that are left write what all do, and the number before them leaves room for them in 32 bits.
pub record Reads (digits rest : List ℕ) (value : ℕ) : Type 0 where
  pub same : written_after value rest ≡ written_after 0 digits
  pub room : (value + 1) * 16 ^ length rest ≤ 4294967296

pub reads_first : (digits : List ℕ) → length digits ≤ 8 → Reads digits digits 0
reads_first digits short =
    let most : 16 ^ length digits ≤ 16 ^ 8 = pow-le-pow_right (omega arith) short in
    record { same = refl; room = omega arith }

-- room for one digit more
pub digit_fits : (digits : List ℕ) (d : ℕ) (after : List ℕ) (value digit : ℕ) → Reads digits (d ∷ after) value → digit < 16 → value * 16 + digit < 4294967296
digit_fits digits d after value digit reads small =
    let power : 16 ^ suc (length after) ≡ 16 * 16 ^ length after = pow-succ' 16 (length after) in
    let one : 1 ≤ 16 ^ length after = one-le-pow (length after) 16 (omega arith) in
    let least : (value + 1) * 16 * 1 ≤ (value + 1) * 16 * 16 ^ length after = mul-le-mul_left ((value + 1) * 16) one in
    let whole : (value + 1) * (16 * 16 ^ length after) ≤ 4294967296 = subst (λ p. (value + 1) * p ≤ 4294967296) power reads.room in
    omega arith

pub reads_next : (digits : List ℕ) (d : ℕ) (after : List ℕ) (value digit code : ℕ) → Reads digits (d ∷ after) value → digit < 16 → digit ≡ digit_value code → code ≡ d
    → Reads digits after (value * 16 + digit)
reads_next digits d after value digit code reads small written same =
    let is : digit ≡ digit_value d = subst (λ c. digit ≡ digit_value c) same written in
    let power : 16 ^ suc (length after) ≡ 16 * 16 ^ length after = pow-succ' 16 (length after) in
    let whole : (value + 1) * (16 * 16 ^ length after) ≤ 4294967296 = subst (λ p. (value + 1) * p ≤ 4294967296) power reads.room in
    let grown : 16 ^ length after * (value * 16 + digit + 1) ≤ 16 ^ length after * ((value + 1) * 16) = mul-le-mul_left (16 ^ length after) (omega arith) in
    let passes : is_digit d ≡ true = lt-ltb (digit_value d) 16 (omega (arith, is)) in
    record {
      same = rw is (sym (next passes) ∙ reads.same);
      room = omega arith;
    }
  where
    next : is_digit d ≡ true → written_after value (d ∷ after) ≡ written_after (value * 16 + digit_value d) after
    next passes = rw passes refl

not_below : (n : ℕ) → ¬ (n < 16) → 16 ≤ n
not_below n refuted = ⊎_elim (λ less. absurd (refuted less)) (λ not_less. not_less) (cases_lt n 16)

-- a byte that is no digit
pub reads_stop : (digits : List ℕ) (d : ℕ) (after : List ℕ) (value code : ℕ) → Reads digits (d ∷ after) value → code ≡ d → ¬ (digit_value code < 16) → None ≡ written_after 0 digits
reads_stop digits d after value code reads is refuted =
    let fails : is_digit d ≡ false = subst (λ c. is_digit c ≡ false) is (le-ltb (digit_value code) 16 (not_below (digit_value code) refuted)) in
    stop fails ∙ reads.same
  where
    stop : is_digit d ≡ false → None ≡ written_after value (d ∷ after)
    stop fails = rw fails refl

pub reads_all : (digits rest : List ℕ) (value : ℕ) → length rest ≡ 0 → Reads digits rest value → Some value ≡ written_after 0 digits
reads_all digits [] value none reads = reads.same
reads_all digits (d ∷ rest) value none reads = absurd (omega arith)

-- an address, where the length is that of one
pub address_of : (digits : List ℕ) → 0 < length digits → length digits ≤ 8 → written_after 0 digits ≡ address digits
unfolding address
address_of digits some short = rw (lt-ltb 0 (length digits) some, le-leb (length digits) 8 short) refl

pub no_digits : (digits : List ℕ) → length digits ≡ 0 → None ≡ address digits
unfolding address
no_digits [] none = refl
no_digits (d ∷ ds) none = absurd (omega arith)

pub many_digits : (digits : List ℕ) → 8 < length digits → None ≡ address digits
unfolding address
many_digits digits many =
    let long : nat_le (length digits) 8 ≡ false = lt-leb (length digits) 8 many in
    sym (cond-false _ (Some (digits_value_after 16 0 digits)) None (and_right (nat_lt 0 (length digits)) _ (and_left (nat_le (length digits) 8) _ long)))

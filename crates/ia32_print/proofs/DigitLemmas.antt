-- Digits without the zeros in front of them.
use Rattle.std.proofs.Common.{◌≡◌, ◌≢◌, ℕ, zero, suc, ◌-◌, ◌<◌, Bool, true, false, cond, eqb, List, [], ◌∷◌, length, take, drop, get_or, refl, sym, ◌∙◌, arith, eqb-true, ⊎_elim}
use Rattle.std.proofs.lemmas.Bool.{cases_lt}
use Rattle.std.proofs.lemmas.Slice.{between_to_end}
use Rattle.ia32_print.specs.Text.{without_zeros}

-- a zero in front of a digit is left out
pub without_zeros-zero : (digits : List ℕ) (i next : ℕ) → next ≡ suc i → next < length digits → get_or digits i 0 ≡ 48
    → without_zeros (drop i digits) ≡ without_zeros (drop next digits)
unfolding without_zeros
without_zeros-zero [] i next is below zero_there = absurd (omega arith)
without_zeros-zero (digit ∷ []) i next is below zero_there = absurd (omega arith)
without_zeros-zero (digit ∷ second ∷ more) zero next is below zero_there = rw (is, zero_there) refl
without_zeros-zero (digit ∷ second ∷ more) (suc i) next is below zero_there =
    rw is (without_zeros-zero (second ∷ more) i (suc i) refl (omega arith) zero_there)

-- the last digit stays
pub without_zeros-last : (digits : List ℕ) (i : ℕ) → suc i ≡ length digits → without_zeros (drop i digits) ≡ drop i digits
unfolding without_zeros
without_zeros-last [] i is = absurd (omega arith)
without_zeros-last (digit ∷ []) zero is = refl
without_zeros-last (digit ∷ []) (suc i) is = absurd (omega arith)
without_zeros-last (digit ∷ second ∷ more) zero is = absurd (omega arith)
without_zeros-last (digit ∷ second ∷ more) (suc i) is = without_zeros-last (second ∷ more) i (omega arith)

kept : (digit : ℕ) (rest all : List ℕ) (b : Bool) → eqb digit 48 ≡ b → digit ≢ 48 → cond b rest all ≡ all
kept digit rest all true is other = absurd (other (eqb-true digit 48 is))
kept digit rest all false is other = refl

-- so does another digit
pub without_zeros-digit : (digits : List ℕ) (i : ℕ) → i < length digits → get_or digits i 0 ≢ 48 → without_zeros (drop i digits) ≡ drop i digits
unfolding without_zeros
without_zeros-digit [] i below other = absurd (omega arith)
without_zeros-digit (digit ∷ []) zero below other = refl
without_zeros-digit (digit ∷ []) (suc i) below other = absurd (omega arith)
without_zeros-digit (digit ∷ second ∷ more) zero below other = kept digit _ _ (eqb digit 48) refl other
without_zeros-digit (digit ∷ second ∷ more) (suc i) below other = without_zeros-digit (second ∷ more) i (omega arith) other

-- where a walk over the zeros ends
pub without_zeros-end : (digits : List ℕ) (i : ℕ) → length digits ≡ 8 → i < 8 → (i < 7 → get_or digits i 0 ≢ 48)
    → take (8 - i) (drop i digits) ≡ without_zeros (drop i digits)
without_zeros-end digits i eight below other =
    between_to_end digits i 8 (omega arith) ∙ sym (⊎_elim
    (λ inside. without_zeros-digit digits i (omega arith) (other inside))
    (λ last. without_zeros-last digits i (omega arith))
    (cases_lt i 7))

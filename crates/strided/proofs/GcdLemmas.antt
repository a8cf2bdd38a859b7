-- The greatest common divisor is what its name says, and what follows of divisors.
use Rattle.std.proofs.Common.{◌≡◌, ℕ, zero, suc, ◌≤◌, ◌<◌, ◌%◌, refl, sym, arith}
use Rattle.std.specs.Int.{IsGcd, ◌∣◌}
use Rattle.std.proofs.lemmas.Nat.{mod_below}
use Rattle.std.proofs.lemmas.Nat.Gcd.{IsGcd-from_zero, IsGcd-from_mod, same_from_IsGcd}
use Rattle.strided.specs.Gcd.{gcd, gcd_within}

IsGcd-gcd_within : (steps a b : ℕ) → b ≤ steps → IsGcd a b (gcd_within steps a b)
unfolding gcd_within
IsGcd-gcd_within zero a b h = IsGcd-from_zero a b (omega arith)
IsGcd-gcd_within (suc steps) a zero h = IsGcd-from_zero a 0 refl
IsGcd-gcd_within (suc steps) a (suc b) h =
    let falls : (a % suc b) < suc b = mod_below a (suc b) (omega arith) in
    IsGcd-from_mod a (suc b) (gcd_within steps (suc b) (a % suc b))
    (IsGcd-gcd_within steps (suc b) (a % suc b) (omega arith))

pub IsGcd-gcd : (a b : ℕ) → IsGcd a b (gcd a b)
unfolding gcd
IsGcd-gcd a b = IsGcd-gcd_within b a b (omega arith)

pub gcd_from_IsGcd : (a b g : ℕ) → IsGcd a b g → g ≡ gcd a b
gcd_from_IsGcd a b g h = same_from_IsGcd a b g (gcd a b) h (IsGcd-gcd a b)

pub gcd_divides_left : (a b : ℕ) → gcd a b ∣ a
gcd_divides_left a b = let g = IsGcd-gcd a b in g.0

pub gcd_divides_right : (a b : ℕ) → gcd a b ∣ b
gcd_divides_right a b = let g = IsGcd-gcd a b in g.1

-- one step of Euclid's
pub gcd_step : (a b : ℕ) → gcd b (a % b) ≡ gcd a b
gcd_step a b = gcd_from_IsGcd a b (gcd b (a % b)) (IsGcd-from_mod a b (gcd b (a % b)) (IsGcd-gcd b (a % b)))

pub gcd-zero : (a b : ℕ) → b ≡ 0 → gcd a b ≡ a
gcd-zero a b e = sym (gcd_from_IsGcd a b a (IsGcd-from_zero a b e))

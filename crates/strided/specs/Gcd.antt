-- The greatest common divisor, in which a zero counts for nothing. The definition is the project's own.
use Rattle.std.specs.Prelude.{ℕ, zero, suc, ◌%◌}

-- Euclid's steps, at most `steps` of them
unfoldable pub gcd_within : ℕ → ℕ → ℕ → ℕ
gcd_within zero a b = a
gcd_within (suc steps) a zero = a
gcd_within (suc steps) a (suc b) = gcd_within steps (suc b) (a % suc b)

-- The second number falls at each step, so b steps are enough. `gcd a b` is the only number that `IsGcd` of
-- std allows for a and b.
unfoldable pub gcd : ℕ → ℕ → ℕ
gcd a b = gcd_within b a b

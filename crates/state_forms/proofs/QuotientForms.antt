-- Quotient and remainder at 32 bits are words.
use Rattle.std.proofs.Common.{◌≡◌, ℕ, zero, suc, ◌-◌, ◌/◌, ◌%◌, ◌<◌, ◌≤◌, ◌==◌, ◌||◌, Bool, true, false, cond, Option, Some, None, refl, arith}
use Rattle.std.specs.Prelude.{IfSome, nat_le, nat_lt}
use Rattle.std.proofs.lemmas.Bool.{cond_both, or_parts, leb-true, leb-false, ltb-true, true≢false}
use Rattle.std.proofs.lemmas.Nat.{mod_below}
use Rattle.ia32_types.specs.declared.Width.{Width}
use Rattle.ia32_types.specs.declared.Width.TheVariants.{B8, W16, D32}
use Rattle.ia32_semantics.specs.Alu.{sign}
use Rattle.ia32_semantics.specs.Division.{dividend, unsigned_division, signed_as, magnitude, quotient_fits, division_of_sizes, signed_division, division}
use Rattle.vset.specs.Values.{Values}
use Rattle.abs_alu.specs.Operands.{known}
use Rattle.abs_steps.specs.Results.{quotient_of, known_quotient}
use Rattle.step_soundness.proofs.SinceLaws.{known_below}

abbrev pub AreWords : ℕ × ℕ → Type 0
AreWords q = (q.0 < 4294967296) × (q.1 < 4294967296)

rest_below : (n by : ℕ) → (by == 0) ≡ false → by ≤ 4294967296 → n % by < 4294967296
rest_below n zero some few = absurd (true≢false some)
rest_below n (suc k) some few = let lt = mod_below n (suc k) (omega arith) in omega (arith, lt, few)

unsigned_words : (n by : ℕ) → by ≤ 4294967296 → IfSome (unsigned_division 32 n by) AreWords
unfolding unsigned_division
unsigned_words n by few =
    cond_both (by == 0 || nat_le 4294967296 (n / by)) None (Some (n / by, n % by)) (λ o. IfSome o AreWords) (λ _. tt)
    (λ fits. let both = or_parts (by == 0) (nat_le 4294967296 (n / by)) fits in (leb-false 4294967296 (n / by) both.1, rest_below n by both.0 few))

sized_words : (first second : Bool) (n by : ℕ) → by ≤ 4294967296 → IfSome (division_of_sizes 32 first second n by) AreWords
unfolding division_of_sizes quotient_fits signed_as
sized_words first second n by few =
    cond_both (by == 0) None _ (λ o. IfSome o AreWords) (λ _. tt)
    (λ some. cond_both (cond second (nat_le (n / by) 2147483648) (nat_lt (n / by) 2147483648)) (Some (signed_as 32 second (n / by), signed_as 32 first (n % by))) None (λ o. IfSome o AreWords)
    (λ fits. (word second (n / by) (small second (n / by) fits), word first (n % by) (rest_below n by some few))) (λ _. tt))
  where
    word : (t : Bool) (k : ℕ) → k < 4294967296 → cond t ((4294967296 - k) % 4294967296) k < 4294967296
    word true k lt = omega arith
    word false k lt = lt

    small : (t : Bool) (k : ℕ) → cond t (nat_le k 2147483648) (nat_lt k 2147483648) ≡ true → k < 4294967296
    small true k e = let le = leb-true k 2147483648 e in omega (arith, le)
    small false k e = let lt = ltb-true k 2147483648 e in omega (arith, lt)

division_words : (signed : Bool) (high low by : ℕ) → by < 4294967296 → IfSome (division 32 signed high low by) AreWords
unfolding division signed_division magnitude
division_words true high low by lt =
    sized_words _ _ _ (magnitude 32 by) (cond_both (sign 32 by) (4294967296 - by) by (λ (x : ℕ). x ≤ 4294967296) (λ _. omega arith) (λ _. omega (arith, lt)))
division_words false high low by lt = unsigned_words (dividend 32 high low) by (omega (arith, lt))

pub quotient_words : (width : Width) (signed : Bool) (high low by : Values) → IfSome (known_quotient width signed high low by) AreWords
quotient_words D32 signed high low by = of (known 32 high) (known 32 low) (known 32 by) refl
  where
    of : (h l b : Option ℕ) → known 32 by ≡ b → IfSome (quotient_of signed h l b) AreWords
    of (Some h) (Some l) (Some b) e = division_words signed h l b (known_below 32 by b e)
    of None l b e = tt
    of (Some h) None b e = tt
    of (Some h) (Some l) None e = tt
quotient_words B8 signed high low by = tt
quotient_words W16 signed high low by = tt

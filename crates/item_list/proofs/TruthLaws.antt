-- What the standard library's lemmas on truth values lack.
use Rattle.std.proofs.Common.{◌≡◌, ◌≢◌, ℕ, zero, suc, ◌+◌, Bool, true, false, not, cond, IsTrue, refl, sym, ◌∙◌, subst, ⊎_elim, arith}
use Rattle.std.specs.Prelude.{◌↔◌, ◌==◌}
use Rattle.std.proofs.lemmas.Bool.{cases_eq, eq-eqb, ne_eqb}

pub true_not : (b : Bool) → b ≡ true → b ≢ false
true_not b is other = absurd (cc)

pub not_says : (b : Bool) → IsTrue (not b) ↔ (¬ IsTrue b)
not_says true = (λ is yes. absurd (cc), λ no. absurd (no refl))
not_says false = (λ is yes. absurd (cc), λ no. refl)

-- tests that follow from each other are the same
pub same_test : (a b : Bool) → (a ≡ true → b ≡ true) → (b ≡ true → a ≡ true) → a ≡ b
same_test true b here back = sym (here refl)
same_test false true here back = back refl
same_test false false here back = refl

pub eqb_swapped : (a b : ℕ) → (a == b) ≡ (b == a)
eqb_swapped a b = ⊎_elim (λ same. eq-eqb a b same ∙ sym (eq-eqb b a (sym same))) (λ other. ne_eqb a b other ∙ sym (ne_eqb b a (λ same. other (sym same)))) (cases_eq a b)

-- a fact of a count, from the fact of one more and of none
pub counted : (b : Bool) (n : ℕ) (P : ℕ → Type 0) → (b ≡ true → P (suc n)) → (b ≡ false → P 0) → P (cond b (1 + n) 0)
counted true n P here there = let e : suc n ≡ 1 + n = omega arith in subst P e (here refl)
counted false n P here there = there refl

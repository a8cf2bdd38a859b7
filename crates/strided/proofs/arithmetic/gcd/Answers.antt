-- Euclid's step keeps the greatest common divisor, and at 0 the other number is it.
use Rattle.std.proofs.Common.{ℕ, sym, subst, ◌∙◌, arith}
use Rattle.std.specs.Int.{IsGcd}
use Rattle.strided.proofs.GcdLemmas.{IsGcd-gcd, gcd_step, gcd-zero}
use Rattle.strided.proofs.arithmetic.gcd.Goals as goal

pub loop-rest-preserved : goal.loop-rest-preserved
loop-rest-preserved c = gcd_step c.loop-rest.divisor c.loop-rest.rest ∙ c.loop-rest.invariant

pub returns-clause-value : goal.returns-clause-value
returns-clause-value c = sym (gcd-zero c.loop-rest.divisor c.loop-rest.rest (omega arith)) ∙ c.loop-rest.invariant

pub returns-clause-greatest : goal.returns-clause-greatest
returns-clause-greatest c =
    subst (λ (g : ℕ). IsGcd c.args.a c.args.b g) (sym (returns-clause-value c)) (IsGcd-gcd c.args.a c.args.b)

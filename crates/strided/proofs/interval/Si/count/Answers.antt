-- The number of strides from end to end, and one more.
use Rattle.std.proofs.Common.{◌≡◌, ℕ, sym, subst, arith}
use Rattle.std.specs.Int.{int_gap}
use Rattle.std.proofs.lemmas.Int.{ints}
use Rattle.strided.specs.Interval.{Interval, HasMembers}
use Rattle.strided.specs.Operations.{count}
use Rattle.strided.proofs.SpacedLemmas.{gap_from}
use Rattle.strided.proofs.BoundLemmas.{count_exact}
use Rattle.strided.proofs.interval.Si.count.Goals as goal

pub returns-clause-value : goal.returns-clause-value
unfolding count
returns-clause-value c =
    let a : Interval = c.args.self.now in
    let e : int_gap a.lo a.hi ≡ c.gap.result = gap_from a.lo a.hi c.gap.result (omega (arith, ints)) in
    let s : c.stride.result ≡ a.stride = c.stride.ensures.value in
    grind (arith, c.quotient.ensures, c.from.ensures)

pub returns-clause-exact : goal.returns-clause-exact
returns-clause-exact c =
    subst (λ (n : ℕ). HasMembers c.args.self.now n) (sym (returns-clause-value c)) (count_exact c.args.self.now c.lo.ensures.canonical)

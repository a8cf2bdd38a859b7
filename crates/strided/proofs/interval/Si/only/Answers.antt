-- The stride tells whether there is one member.
use Rattle.std.proofs.Common.{sym, ◌∙◌, arith}
use Rattle.std.proofs.lemmas.Int.{ints}
use Rattle.strided.specs.Interval.{Interval}
use Rattle.strided.proofs.NumberLemmas.{only_alone, only_several, only_tells}
use Rattle.strided.proofs.interval.Si.only.Goals as goal

pub returns-then-stride-eq0-clause-value : goal.returns-then-stride-eq0-clause-value
returns-then-stride-eq0-clause-value c =
    let a : Interval = c.args.self.now in
    only_alone a _ (sym c.stride.ensures.value ∙ c.if-stride-eq0.true) (omega (arith, ints, c.lo.ensures.value))

pub returns-then-stride-eq0-clause-exact : goal.returns-then-stride-eq0-clause-exact
returns-then-stride-eq0-clause-exact c = only_tells _ c.args.self.now c.stride.ensures.canonical (returns-then-stride-eq0-clause-value c)

pub returns-else-stride-eq0-clause-value : goal.returns-else-stride-eq0-clause-value
returns-else-stride-eq0-clause-value c = only_several c.args.self.now (λ e. c.if-stride-eq0.false (c.stride.ensures.value ∙ e))

pub returns-else-stride-eq0-clause-exact : goal.returns-else-stride-eq0-clause-exact
returns-else-stride-eq0-clause-exact c = only_tells _ c.args.self.now c.stride.ensures.canonical (returns-else-stride-eq0-clause-value c)

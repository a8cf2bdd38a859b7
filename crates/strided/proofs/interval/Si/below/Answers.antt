-- Where an end is no member, and else by the strides.
use Rattle.std.proofs.Common.{◌≡◌, arith}
use Rattle.std.proofs.lemmas.Int.{ints}
use Rattle.strided.specs.Interval.{Interval}
use Rattle.strided.proofs.BoundLemmas.{below_no_lo, below_no_hi, below_rest, below_tells, same_has}
use Rattle.strided.proofs.interval.Si.below.Goals as goal

pub returns-then-not-has-clause-value : goal.returns-then-not-has-clause-value
returns-then-not-has-clause-value c =
    let a : Interval = c.args.self.now in
    let b : Interval = c.args.other.now in
    below_no_lo a b (same_has b c.if-not-has.ensures.value a.lo (omega (arith, ints)))

pub returns-then-not-has-clause-exact : goal.returns-then-not-has-clause-exact
returns-then-not-has-clause-exact c =
    below_tells _ c.args.self.now c.args.other.now c.lo.ensures.canonical (returns-then-not-has-clause-value c)

pub returns-then-not-has-2-clause-value : goal.returns-then-not-has-2-clause-value
returns-then-not-has-2-clause-value c =
    let a : Interval = c.args.self.now in
    let b : Interval = c.args.other.now in
    below_no_hi a b (same_has b c.if-not-has-2.ensures.value a.hi (omega (arith, ints)))

pub returns-then-not-has-2-clause-exact : goal.returns-then-not-has-2-clause-exact
returns-then-not-has-2-clause-exact c =
    below_tells _ c.args.self.now c.args.other.now c.lo.ensures.canonical (returns-then-not-has-2-clause-value c)

pub returns-clause-value : goal.returns-clause-value
returns-clause-value c =
    let a : Interval = c.args.self.now in
    let b : Interval = c.args.other.now in
    let s : c.stride-2.result ≡ a.stride = c.stride-2.ensures.value in
    let t : c.stride.result ≡ b.stride = c.stride.ensures.value in
    below_rest c.divides.result a b
    (same_has b c.if-not-has.ensures.value a.lo (omega (arith, ints)))
    (same_has b c.if-not-has-2.ensures.value a.hi (omega (arith, ints)))
    (cc (c.divides.ensures.value))

pub returns-clause-exact : goal.returns-clause-exact
returns-clause-exact c =
    below_tells _ c.args.self.now c.args.other.now c.lo.ensures.canonical (returns-clause-value c)

-- The first member from lo, and the lesser of the upper bounds.
use Rattle.std.proofs.Common.{◌≡◌, arith}
use Rattle.std.specs.Prelude.{◌≤ℤ◌}
use Rattle.std.specs.Int.{int_min}
use Rattle.std.proofs.lemmas.Int.{ints, clamps}
use Rattle.strided.specs.Interval.{Interval}
use Rattle.strided.specs.Operations.{first_from}
use Rattle.strided.proofs.BoundLemmas.{clip_of_some, clip_of_none, clip_tells, first_above, same_first}
use Rattle.strided.proofs.interval.Si.clip.Goals as goal

pub overflow_cast-first : goal.overflow_cast-first
overflow_cast-first c =
    let a : Interval = c.args.self.now in
    let from : c.first_from-first.result ≡ first_from a c.args.lo = same_first a c.first_from-first.ensures c.args.lo (omega (arith, ints)) in
    let up : a.lo ≤ℤ first_from a c.args.lo = first_above a c.args.lo in
    omega (arith, ints)

pub spaced-requires : goal.spaced-requires
spaced-requires c =
    let a : Interval = c.args.self.now in
    let from : c.first_from-first.result ≡ first_from a c.args.lo = same_first a c.first_from-first.ensures c.args.lo (omega (arith, ints)) in
    let up : a.lo ≤ℤ first_from a c.args.lo = first_above a c.args.lo in
    omega (arith, ints)

pub returns-then-first-from-clause-value : goal.returns-then-first-from-clause-value
returns-then-first-from-clause-value c =
    let a : Interval = c.args.self.now in
    let from : c.first_from-first.result ≡ first_from a c.args.lo = same_first a c.first_from-first.ensures c.args.lo (omega (arith, ints)) in
    let up : a.lo ≤ℤ first_from a c.args.lo = first_above a c.args.lo in
    clip_of_some c.spaced.ensures a c.args.lo c.args.hi c.stride.ensures.value (omega (arith, ints)) (omega (arith, ints, clamps)) (omega (arith, ints))

pub returns-then-first-from-clause-exact : goal.returns-then-first-from-clause-exact
returns-then-first-from-clause-exact c =
    clip_tells _ c.args.self.now c.args.lo c.args.hi c.hi.ensures.canonical (returns-then-first-from-clause-value c)

pub returns-else-first-from-clause-value : goal.returns-else-first-from-clause-value
returns-else-first-from-clause-value c =
    let a : Interval = c.args.self.now in
    let from : c.first_from-first.result ≡ first_from a c.args.lo = same_first a c.first_from-first.ensures c.args.lo (omega (arith, ints)) in
    let to : c.min-last.result ≡ int_min a.hi c.args.hi = omega (arith, ints, clamps) in
    clip_of_none a c.args.lo c.args.hi c.first_from-first.result c.min-last.result from to (omega (arith, ints))

pub returns-else-first-from-clause-exact : goal.returns-else-first-from-clause-exact
returns-else-first-from-clause-exact c =
    clip_tells _ c.args.self.now c.args.lo c.args.hi c.hi.ensures.canonical (returns-else-first-from-clause-value c)

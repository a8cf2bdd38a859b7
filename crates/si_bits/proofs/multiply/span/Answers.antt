-- The ends are those of the formula.
use Rattle.std.proofs.Common.{◌∙◌, arith, refl}
use Rattle.std.proofs.lemmas.Int.{ints, clamps}
use Rattle.si_bits.specs.Operations.{span}
use Rattle.si_bits.proofs.SignLemmas.{plain_32, plain_64}
use Rattle.si_bits.proofs.multiply.span.Goals as goal

pub bounded-requires-clause-ordered : goal.bounded-requires-clause-ordered
bounded-requires-clause-ordered c = omega (arith, ints, clamps)

pub returns : goal.returns
unfolding span
returns c =
    let lo = plain_64 c.from.type_inv (c.from.ensures ∙ plain_32 c.lo.type_inv c.lo.ensures.value) in
    let hi = plain_64 c.from-2.type_inv (c.from-2.ensures ∙ plain_32 c.hi.type_inv c.hi.ensures.value) in
    rw (c.bounded.ensures, c.hull.ensures.low, c.hull.ensures.high, c.times-low.ensures.low, c.times-low.ensures.high, c.times-high.ensures.low, c.times-high.ensures.high, lo, hi) refl

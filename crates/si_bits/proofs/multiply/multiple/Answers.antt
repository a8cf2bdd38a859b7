-- The ends are those of the formula, and the stride fits where they do.
use Rattle.std.proofs.Common.{refl}
use Rattle.std.proofs.lemmas.Int.{to_z-of_z}
use Rattle.std.specs.Int.{w64}
use Rattle.si_bits.specs.Operations.{multiple}
use Rattle.si_bits.proofs.MultipleLemmas.{multiple_narrow}
use Rattle.si_bits.proofs.multiply.multiple.Goals as goal

pub bounded-requires-clause-narrow : goal.bounded-requires-clause-narrow
bounded-requires-clause-narrow c = λ low high.
    let plain = to_z-of_z w64 c.args.factor c.ranges.factor in
    rw (c.from.ensures, c.stride.ensures.value, c.unsigned_abs.ensures.value, plain)
    (multiple_narrow c.args.a.now c.args.factor c.stride.ensures.canonical (rw (c.times.ensures.low, plain) at low) (rw (c.times.ensures.high, plain) at high))

pub returns : goal.returns
unfolding multiple
returns c =
    let plain = to_z-of_z w64 c.args.factor c.ranges.factor in
    rw (c.bounded.ensures, c.from.ensures, c.stride.ensures.value, c.unsigned_abs.ensures.value, c.times.ensures.low, c.times.ensures.high, plain) refl

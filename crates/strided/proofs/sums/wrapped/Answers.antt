-- The lower end as a signed word, and the upper one as far above it as it was.
use Rattle.std.proofs.Common.{◌≡◌, ◌+ℤ◌, refl, arith}
use Rattle.std.specs.Prelude.{◌-ℤ◌}
use Rattle.std.proofs.lemmas.Int.{ints}
use Rattle.strided.specs.Concrete.{signed}
use Rattle.strided.proofs.SumLemmas.{wrap_of_spaced, wrap_of_full, same_signed}
use Rattle.strided.proofs.sums.wrapped.Goals as goal

pub returns-then-end-from : goal.returns-then-end-from
returns-then-end-from c =
    let from : c.signed-start.result ≡ signed c.args.lo = same_signed c.signed-start.ensures c.args.lo (omega (arith, ints)) in
    wrap_of_spaced c.args.stride c.spaced.ensures c.args.lo c.args.hi (omega (arith, ints)) (omega (arith, ints)) (omega (arith, ints))

pub returns-else-end-from : goal.returns-else-end-from
returns-else-end-from c =
    let from : c.signed-start.result ≡ signed c.args.lo = same_signed c.signed-start.ensures c.args.lo (omega (arith, ints)) in
    wrap_of_full c.full.ensures c.args.stride c.args.lo c.args.hi (signed c.args.lo +ℤ (c.args.hi -ℤ c.args.lo)) refl (omega (arith, ints))

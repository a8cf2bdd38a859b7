-- One member, or as many strides as the distance has.
use Rattle.std.proofs.Common.{◌≡◌, ℕ, ◌*◌, ◌/◌, ap, arith}
use Rattle.std.proofs.lemmas.Int.{ints}
use Rattle.strided.proofs.SpacedLemmas.{spaced_of_one, spaced_of_many}
use Rattle.strided.proofs.interval.Si.spaced.Goals as goal

pub returns-then-turns-eq0 : goal.returns-then-turns-eq0
returns-then-turns-eq0 c =
    spaced_of_one c.one.ensures c.args.stride c.gap.result c.args.lo c.args.hi (omega (arith, ints)) (omega (arith, ints)) (omega arith)

pub returns-else-turns-eq0 : goal.returns-else-turns-eq0
returns-else-turns-eq0 c =
    let turns : c.quotient-turns.result ≡ c.gap.result / c.args.stride = c.quotient-turns.ensures in
    let whole : c.quotient-turns.result * c.args.stride ≡ c.gap.result / c.args.stride * c.args.stride = ap (λ (k : ℕ). k * c.args.stride) turns in
    spaced_of_many c.made.ensures c.gap.result c.args.lo c.args.hi (omega (arith, ints)) (omega (arith, ints)) (omega arith) (omega (arith, ints))

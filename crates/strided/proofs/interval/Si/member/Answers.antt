-- The strides up to the member stay below the upper end.
use Rattle.std.proofs.Common.{◌≡◌, ℕ, ◌*◌, ap, refl, arith}
use Rattle.std.proofs.lemmas.Int.{ints}
use Rattle.strided.specs.Interval.{Interval}
use Rattle.strided.proofs.NumberLemmas.{steps_within, member_numbered}
use Rattle.strided.proofs.interval.Si.member.Goals as goal

pub overflow_mul-number : goal.overflow_mul-number
overflow_mul-number c =
    let a : Interval = c.args.self.now in
    let fit = steps_within a c.stride.ensures.canonical c.args.number c.stride.result a.lo c.requires c.stride.ensures.value refl in
    let most = fit.1 in omega arith

pub raised-requires : goal.raised-requires
raised-requires c =
    let a : Interval = c.args.self.now in
    let fit = steps_within a c.stride.ensures.canonical c.args.number c.stride.result a.lo c.requires c.stride.ensures.value refl in
    let end = fit.0 in
    let high = c.stride.ensures.canonical.high in
    let lo = c.lo.ensures.value in omega (arith, ints)

pub returns-clause-exact : goal.returns-clause-exact
returns-clause-exact c =
    let a : Interval = c.args.self.now in
    let from = c.lo.ensures.value in
    let turns : c.args.number * c.stride.result ≡ c.args.number * a.stride = ap (λ (n : ℕ). c.args.number * n) c.stride.ensures.value in
    let reached = c.raised.ensures in
    member_numbered _ a c.stride.ensures.canonical c.args.number c.requires (omega (arith, ints))

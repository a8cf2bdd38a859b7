-- The distance from the lower end, as the next multiple of the stride.
use Rattle.std.proofs.Common.{◌≡◌, arith}
use Rattle.std.specs.Int.{int_gap, next_multiple_of, cast_signed, cast_unsigned, w32}
use Rattle.std.proofs.lemmas.Int.{ints}
use Rattle.strided.specs.Interval.{Interval}
use Rattle.strided.proofs.SpacedLemmas.{same_gap}
use Rattle.strided.proofs.BoundLemmas.{first_is}
use Rattle.strided.proofs.bounds.first_from.Goals as goal

pub returns : goal.returns
returns c =
    let a : Interval = c.args.si.now in
    let s : c.stride.result ≡ a.stride = c.stride.ensures.value in
    let g : c.rise.result ≡ int_gap a.lo c.args.lo =
    same_gap c.rise.result (cast_signed w32 (cast_unsigned w32 c.lo-2.result)) (cast_signed w32 (cast_unsigned w32 c.args.lo)) c.rise.ensures
    a.lo c.args.lo (omega (arith, ints)) (omega (arith, ints)) in
    let n : c.next_multiple.result ≡ next_multiple_of (int_gap a.lo c.args.lo) a.stride = cc (c.next_multiple.ensures) in
    first_is _ c.next_multiple.result a c.args.lo n (omega (arith, ints))

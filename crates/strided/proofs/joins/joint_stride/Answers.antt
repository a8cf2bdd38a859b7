-- The greatest common divisor of the strides and the distance.
use Rattle.std.proofs.Common.{◌≡◌, arith}
use Rattle.std.specs.Prelude.{unsigned_abs, ◌-ℤ◌}
use Rattle.std.proofs.lemmas.Int.{ints}
use Rattle.strided.specs.Interval.{Interval}
use Rattle.strided.specs.Operations.{joint_stride}
use Rattle.strided.proofs.joins.joint_stride.Goals as goal

pub returns-clause-value : goal.returns-clause-value
unfolding joint_stride
returns-clause-value c =
    let a : Interval = c.args.a.now in
    let b : Interval = c.args.b.now in
    let s : c.stride.result ≡ a.stride = c.stride.ensures.value in
    let t : c.stride-2.result ≡ b.stride = c.stride-2.ensures.value in
    let d : c.abs_diff.result ≡ unsigned_abs (a.lo -ℤ b.lo) = omega (arith, ints) in
    cc (c.gcd.ensures.value, c.gcd-2.ensures.value)

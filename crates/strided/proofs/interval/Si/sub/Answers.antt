-- The differences of the ends; the law on members does the rest.
use Rattle.std.proofs.Common.{◌≡◌, sym, subst, arith}
use Rattle.std.specs.Prelude.{◌-ℤ◌}
use Rattle.std.proofs.lemmas.Int.{ints}
use Rattle.strided.specs.Concrete.{difference_of}
use Rattle.strided.specs.Gcd.{gcd}
use Rattle.strided.specs.Interval.{Interval, IsMember}
use Rattle.strided.specs.Operations.{sub}
use Rattle.strided.specs.Rows.{IsWrapped}
use Rattle.strided.proofs.SumLemmas.{same_wrap, member_sub, sub_wrapped}
use Rattle.strided.proofs.interval.Si.sub.Goals as goal

pub wrapped-requires-clause-near : goal.wrapped-requires-clause-near
wrapped-requires-clause-near c = omega (arith, ints)

pub returns-clause-value : goal.returns-clause-value
unfolding sub
returns-clause-value c =
    let a : Interval = c.args.self.now in
    let b : Interval = c.args.other.now in
    let s : c.stride.result ≡ a.stride = c.stride.ensures.value in
    let t : c.stride-2.result ≡ b.stride = c.stride-2.ensures.value in
    same_wrap c.wrapped.ensures (gcd a.stride b.stride) (a.lo -ℤ b.hi) (a.hi -ℤ b.lo)
    (cc (c.gcd-stride.ensures.value)) (omega (arith, ints)) (omega (arith, ints))

pub returns-clause-sound : goal.returns-clause-sound
returns-clause-sound c v w h k =
    subst (λ (r : Interval). IsMember (difference_of v w) r) (sym (returns-clause-value c))
    (member_sub v w c.args.self.now c.args.other.now c.stride-2.ensures.canonical h k)

pub returns-clause-ends : goal.returns-clause-ends
returns-clause-ends c =
    let a : Interval = c.args.self.now in
    let b : Interval = c.args.other.now in
    subst (λ (r : Interval). IsWrapped (gcd a.stride b.stride) (a.lo -ℤ b.hi) (a.hi -ℤ b.lo) r) (sym (returns-clause-value c))
    (sub_wrapped a b c.stride.ensures.canonical c.stride-2.ensures.canonical)

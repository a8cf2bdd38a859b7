-- One number, or what lies between the ends.
use Rattle.std.proofs.Common.{◌≡◌, Bool, cond, Some, None, sym, ap, ◌∙◌, arith}
use Rattle.std.specs.Prelude.{◌≤ℤ◌}
use Rattle.std.proofs.lemmas.Int.{ints}
use Rattle.strided.specs.Interval.{Interval}
use Rattle.strided.specs.Operations.{has}
use Rattle.strided.proofs.MemberLemmas.{member_above}
use Rattle.strided.proofs.BoundLemmas.{meet_of_one, meet_of_many, then_some_is, clipped_keeps, same_clip, same_has}
use Rattle.strided.proofs.interval.Si.meet.Goals as goal

pub returns-then-stride-eq0-clause-value : goal.returns-then-stride-eq0-clause-value
returns-then-stride-eq0-clause-value c =
    let a : Interval = c.args.self.now in
    let b : Interval = c.args.other.now in
    let test : c.has.result ≡ has a b.lo = same_has a c.has.ensures.value b.lo (omega (arith, ints)) in
    let picks = ap (λ (t : Bool). cond t (Some b) None) test in
    meet_of_one c.then_some.result a b (sym c.stride.ensures.value ∙ c.if-stride-eq0.true)
    (c.then_some.ensures ∙ then_some_is c.has.result b ∙ picks)

pub returns-else-stride-eq0-clause-value : goal.returns-else-stride-eq0-clause-value
returns-else-stride-eq0-clause-value c =
    let a : Interval = c.args.self.now in
    let b : Interval = c.args.other.now in
    meet_of_many c.clip.result a b (λ e. c.if-stride-eq0.false (c.stride.ensures.value ∙ e))
    (same_clip a c.clip.ensures.value b.lo b.hi (omega (arith, ints)) (omega (arith, ints)))

pub returns-else-stride-eq0-clause-keeps : goal.returns-else-stride-eq0-clause-keeps
returns-else-stride-eq0-clause-keeps c v h k =
    let b : Interval = c.args.other.now in
    let above : b.lo ≤ℤ v = member_above v b k in
    let under : v ≤ℤ b.hi = k.in_range in
    clipped_keeps v c.args.self.now _ _ c.clip.result c.clip.ensures.exact (h, omega (arith, ints), omega (arith, ints))

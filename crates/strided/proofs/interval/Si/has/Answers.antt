-- A number between the ends is a member exactly where the stride divides its distance from lo.
use Rattle.std.proofs.Common.{arith, subst, false, ◌≡◌, ◌↔◌}
use Rattle.std.specs.Prelude.{IsTrue}
use Rattle.std.proofs.lemmas.Int.{ints}
use Rattle.strided.specs.Interval.{Interval, interval, IsMember}
use Rattle.strided.specs.Operations.{has}
use Rattle.strided.proofs.MemberLemmas.{member_iff}
use Rattle.strided.proofs.BoundLemmas.{has_tells, has_under, has_over}
use Rattle.strided.proofs.interval.Si.has.Goals as goal

pub returns-clause-exact : goal.returns-clause-exact
returns-clause-exact c =
    let a : Interval = interval c.self.inside.stride c.self.inside.lo c.self.inside.hi in
    let tells = member_iff c.args.value a c.gap.result (omega (arith, ints)) (omega (arith, ints)) in
    subst (λ (b : Interval). IsTrue c.divides.result ↔ IsMember c.args.value b) c.self.view_is
    (λ e. tells.0 (c.divides.ensures.multiple.0 e), λ h. c.divides.ensures.multiple.1 (tells.1 h))

pub returns-clause-value : goal.returns-clause-value
returns-clause-value c = has_tells _ c.args.self.now c.args.value (returns-clause-exact c)

pub returns-then-value-self-clause-value : goal.returns-then-value-self-clause-value
returns-then-value-self-clause-value c =
    let a : Interval = interval c.self.inside.stride c.self.inside.lo c.self.inside.hi in
    subst (λ (b : Interval). false ≡ has b c.args.value) c.self.view_is (has_under a c.args.value (omega (arith, ints)))

pub returns-then-self-value-clause-value : goal.returns-then-self-value-clause-value
returns-then-self-value-clause-value c =
    let a : Interval = interval c.self.inside.stride c.self.inside.lo c.self.inside.hi in
    subst (λ (b : Interval). false ≡ has b c.args.value) c.self.view_is (has_over a c.args.value (omega (arith, ints)))

use Rattle.std.proofs.Common.{◌≡◌, ℕ, map, subst, sym}
use Rattle.std.specs.Prelude.{IfOk}
use Rattle.sweeps.specs.Toy.{toy_next}
use Rattle.sweeps.proofs.tests.ToyDomain.successors.Goals as goal

pub returns-then-place-eq10 : goal.returns-then-place-eq10
returns-then-place-eq10 c =
    subst (λ p. IfOk c.returned.result (λ v. v.items ≡ toy_next p c.args.state.now (map {B = ℕ × ℕ} (λ o. (o.0.now, o.1.now)) c.args.others.now))) (sym c.if-place-eq10.true) c.returned.ensures

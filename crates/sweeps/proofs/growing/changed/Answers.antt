use Rattle.std.proofs.Common.{◌≡◌, subst}
use Rattle.std.specs.Prelude.{IfOk}
use Rattle.sweeps.proofs.CodeLemmas.{topped_is, not_topped}
use Rattle.sweeps.proofs.growing.changed.Goals as goal

pub returns-then-number-ge48 : goal.returns-then-number-ge48
returns-then-number-ge48 g c =
    subst (λ t. IfOk c.top_differences.result (λ s. s ≡ t)) (topped_is (g.D.Domain.meaning c.args.domain.now) c.args.widening c.args.number c.args.old.now c.args.new c.in_ok-state.state c.if-number-ge48.true c.in_ok-state.ensures) c.top_differences.ensures

pub returns : goal.returns
returns g c = not_topped (g.D.Domain.meaning c.args.domain.now) c.args.widening c.args.number c.args.old.now c.args.new c.in_ok-state.state c.if-number-ge48.false c.in_ok-state.ensures

use Rattle.std.proofs.Common.{◌∙◌, sym, arith}
use Rattle.sweeps.proofs.CodeLemmas.{same_raised, change_raised}
use Rattle.sweeps.proofs.growing.raise.Goals as goal

pub returns-then-is_same : goal.returns-then-is_same
returns-then-is_same g c = same_raised (g.D.Domain.meaning c.args.domain.now) c.args.widening c.args.row.now c.args.joined (sym c.is_same.ensures ∙ c.if-is_same.true)

pub returns : goal.returns
returns g c =
    change_raised (g.D.Domain.meaning c.args.domain.now) c.args.widening c.args.row.now c.take_state.new.row c.args.joined c.in_ok-state.state _ (omega arith) (sym c.is_same.ensures ∙ c.if-is_same.false) c.in_ok-state.ensures c.take_state.ensures

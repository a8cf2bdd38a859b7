use Rattle.std.proofs.Common.{ap, ◌∙◌}
use Rattle.abs_semantics.specs.Joins.{widened_state}
use Rattle.abs_state.specs.Views.{seen}
use Rattle.vsa.specs.Tables.{table_of, state_of}
use Rattle.vsa.proofs.table.Tabled.widen.Goals as goal

pub returns : goal.returns
returns c =
    c.new.ensures.table
    ∙ ap table_of (c.in_ok-state.ensures ∙ (ap (λ a. widened_state a (seen c.state-2.result.now)) c.state.ensures.state ∙ ap (widened_state (state_of c.args.self.now)) c.state-2.ensures.state))

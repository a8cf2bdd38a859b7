use Rattle.std.proofs.Common.{ap, ◌∙◌}
use Rattle.abs_semantics.specs.Below.{state_below}
use Rattle.abs_state.specs.Views.{seen}
use Rattle.vsa.specs.Tables.{state_of}
use Rattle.vsa.proofs.table.Tabled.is_below.Goals as goal

pub returns : goal.returns
returns c = c.below.ensures ∙ (ap (λ a. state_below a (seen c.state-2.result.now)) c.state.ensures.state ∙ ap (state_below (state_of c.args.self.now)) c.state-2.ensures.state)

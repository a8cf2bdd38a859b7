use Rattle.std.proofs.Common.{ap, ◌∙◌}
use Rattle.abs_state.specs.Views.{seen}
use Rattle.vsa.proofs.checking.table.Goals as goal

pub returns : goal.returns
returns c = c.new.ensures.state ∙ ap seen c.in_ok-copy.ensures.cases

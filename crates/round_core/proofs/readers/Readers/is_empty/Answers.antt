use Rattle.std.proofs.Common.{◌∙◌, ap}
use Rattle.std.specs.Prelude.{not, ◌==◌}
use Rattle.std.specs.FinSet as sets
use Rattle.round_core.proofs.FlagLemmas.{len-flagged}
use Rattle.round_core.proofs.readers.Readers.is_empty.Goals as goal

pub returns : goal.returns
returns c = ap not c.some_up.ensures ∙ len-flagged 0 c.self.inside.flags ∙ ap (λ s. sets.len s == 0) c.self.view_is

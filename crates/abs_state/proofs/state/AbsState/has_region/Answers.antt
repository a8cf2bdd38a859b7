use Rattle.std.proofs.Common.{sym, ◌∙◌, ap}
use Rattle.cell_map.specs.Merges.{has_region}
use Rattle.abs_state.specs.Views.{seen}
use Rattle.abs_state.proofs.ViewLemmas.{same_has}
use Rattle.abs_state.proofs.state.AbsState.has_region.Goals as goal

pub returns : goal.returns
returns c = c.has.ensures ∙ ap (λ r. has_region r c.args.region.now) c.regions.ensures ∙ sym (same_has (seen c.args.self.now) c.args.region.now)

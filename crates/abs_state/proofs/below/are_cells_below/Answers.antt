use Rattle.std.proofs.Common.{◌∙◌, ap}
use Rattle.cell_map.specs.Merges.{are_below}
use Rattle.abs_state.specs.Views.{seen}
use Rattle.abs_state.proofs.ViewLemmas.{cells_below}
use Rattle.abs_state.proofs.below.are_cells_below.Goals as goal

pub returns : goal.returns
returns c = c.below.ensures ∙ ap (λ r. are_below r c.args.a.now.cells c.args.b.now.cells) c.regions.ensures ∙ cells_below (seen c.args.a.now) c.args.b.now.cells

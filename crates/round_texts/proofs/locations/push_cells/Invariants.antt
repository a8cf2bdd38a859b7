use Rattle.std.proofs.Common.{◌≡◌, ◌++◌, length}
use Rattle.std.specs.List.{flat_map}
use Rattle.round_texts.specs.Locations.{cell_line}
use Rattle.round_texts.proofs.locations.push_cells.Given as goal

abbrev pub invariant-cells_left : goal.invariant-cells_left
invariant-cells_left l = l.text.items ++ flat_map cell_line l.rest ≡ l.fn.text.items ++ flat_map cell_line l.fn.cells

abbrev pub decreases-cells_left : goal.decreases-cells_left
decreases-cells_left l = length l.rest

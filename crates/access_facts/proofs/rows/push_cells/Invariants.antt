use Rattle.std.proofs.Common.{◌++◌}
use Rattle.access_facts.specs.Places.{cell_places}
use Rattle.access_facts.specs.Rows.{picks, cells_in_rows}
use Rattle.access_facts.proofs.PickLemmas.{AreDone}
use Rattle.access_facts.proofs.rows.push_cells.Given as goal

abbrev pub invariant-loop-row : goal.invariant-loop-row
invariant-loop-row l = AreDone (picks l.test) l.rows l.row-index l.places.items (l.initial.places.items ++ cell_places (picks l.test) (cells_in_rows l.rows))

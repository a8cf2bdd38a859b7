use Rattle.std.proofs.Common.{◌≡◌, ◌+◌, ◌++◌}
use Rattle.access_facts.specs.Places.{picked}
use Rattle.access_facts.specs.Rows.{picks}
use Rattle.access_facts.proofs.PickLemmas.{IsPicked}
use Rattle.access_facts.proofs.rows.push_row.Given as goal

abbrev pub invariant-loop-cell : goal.invariant-loop-cell
invariant-loop-cell l =
    (l.place ≡ l.row.first + l.cell-index)
    × IsPicked (picks l.test) l.place l.row.cells l.cell-index l.places.items (l.initial.places.items ++ picked (picks l.test) l.row.first l.row.cells)

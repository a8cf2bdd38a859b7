use Rattle.std.proofs.Common.{◌≡◌, ◌++◌, map, drop}
use Rattle.std.specs.List.{flat_map}
use Rattle.image_map.specs.declared.region.RegionId.TheVariants.{Heap}
use Rattle.alocs.specs.Cells.{cells_of}
use Rattle.access_facts.specs.Rows.{AreNumbered, cells_in_rows}
use Rattle.access_facts.proofs.graph_cells.push_heaps.Given as goal

abbrev pub invariant-loop-key : goal.invariant-loop-key
invariant-loop-key l =
    AreNumbered l.growing.rows.items l.growing.next
    × (cells_in_rows l.growing.rows.items ++ flat_map (cells_of l.cells) (map Heap (drop l.key-index l.keys)) ≡ cells_in_rows l.initial.growing.rows.items ++ flat_map (cells_of l.cells) (map Heap l.keys))

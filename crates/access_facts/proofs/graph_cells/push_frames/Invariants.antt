use Rattle.std.proofs.Common.{◌≡◌, ◌++◌, map, drop}
use Rattle.std.specs.List.{flat_map}
use Rattle.image_map.specs.declared.region.RegionId.TheVariants.{Frame}
use Rattle.alocs.specs.Cells.{cells_of}
use Rattle.access_facts.specs.Rows.{AreNumbered, cells_in_rows}
use Rattle.access_facts.proofs.graph_cells.push_frames.Given as goal

abbrev pub invariant-loop-procedure : goal.invariant-loop-procedure
invariant-loop-procedure l =
    AreNumbered l.growing.rows.items l.growing.next
    × (cells_in_rows l.growing.rows.items ++ flat_map (cells_of l.cells) (map Frame (drop l.procedure-index l.procedures)) ≡ cells_in_rows l.initial.growing.rows.items ++ flat_map (cells_of l.cells) (map Frame l.procedures))

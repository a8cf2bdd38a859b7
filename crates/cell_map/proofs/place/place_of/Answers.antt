use Rattle.std.proofs.Common.{rules}
use Rattle.std.proofs.lemmas.List.Sorted.{IsPartitionPoint-from_clause}
use Rattle.image_map.specs.Regions.{cell_before}
use Rattle.abs_semantics.specs.declared.parts.CellValue.{CellValue}
use Rattle.cell_map.proofs.PlaceLemmas.{cells_parted}
use Rattle.cell_map.proofs.place.place_of.Goals as goal

pub returns-clause-point : goal.returns-clause-point
returns-clause-point c =
    let es = c.args.es.now in
    let cell = c.args.cell.now in
    IsPartitionPoint-from_clause (λ (e : CellValue). cell_before e.cell cell) es _ c.partition_point.ensures.partitioned (cells_parted cell es c.requires) (λ b r f k. search rules)

use Rattle.std.proofs.Common.{pos, rules}
use Rattle.std.specs.Prelude.{int_lt}
use Rattle.std.proofs.lemmas.List.Sorted.{IsPartitionPoint-from_clause}
use Rattle.alocs.specs.declared.extents.Extent.{Extent}
use Rattle.alocs.proofs.SegmentLemmas.{starts_parted}
use Rattle.alocs.proofs.extents.place_of.Goals as goal

pub returns-clause-point : goal.returns-clause-point
returns-clause-point c =
    let xs = c.args.extents.now in
    let at = c.args.offset in
    IsPartitionPoint-from_clause (λ (x : Extent). int_lt x.start at) xs _ c.partition_point.ensures.partitioned (starts_parted (pos 0) at xs c.requires) (λ b r f k. search rules)

use Rattle.std.proofs.Common.{negsuc, rules, ◌∙◌}
use Rattle.std.specs.Prelude.{int_le}
use Rattle.std.proofs.lemmas.List.Sorted.{IsPartitionPoint-from_clause}
use Rattle.alocs.specs.declared.extents.Extent.{Extent}
use Rattle.alocs.proofs.ExtentLemmas.{found_at_point, extents_parted}
use Rattle.alocs.proofs.extents.extent_after.Goals as goal

pub returns : goal.returns
returns c =
    let xs = c.args.extents.now in
    let at = c.args.offset in
    let point = IsPartitionPoint-from_clause (λ (x : Extent). int_le x.end at) xs _ c.partition_point-passed.ensures.partitioned (extents_parted (negsuc 2147483647) at xs c.requires) (λ b r f k. search rules) in
    c.extent_at.ensures ∙ found_at_point at xs c.partition_point-passed.result c.partition_point-passed.ensures.bound point

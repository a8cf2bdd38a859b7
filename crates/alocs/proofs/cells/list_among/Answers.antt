use Rattle.std.proofs.Common.{Some, None, cond, sym, ap, ◌∙◌, rules}
use Rattle.std.proofs.lemmas.List.Sorted.{IsPartitionPoint-from_clause}
use Rattle.image_map.specs.Regions.{region_before}
use Rattle.alocs.specs.declared.cells.CutList.{CutList}
use Rattle.alocs.proofs.HalfLemmas.{found_by_halves, kept, regions_parted}
use Rattle.alocs.proofs.cells.list_among.Goals as goal

pub returns-in-None : goal.returns-in-None
returns-in-None c =
    let xs = c.args.lists.now in
    let r = c.args.region in
    let point = IsPartitionPoint-from_clause (λ (l : CutList). region_before l.region r) xs _ c.partition_point-place.ensures.partitioned (regions_parted r xs c.requires) (λ b r f k. search rules) in
    ap (kept r) c.in-None.ensures ∙ sym (found_by_halves r xs c.partition_point-place.result c.requires c.partition_point-place.ensures.bound point)

pub returns-then-eq : goal.returns-then-eq
returns-then-eq c =
    let xs = c.args.lists.now in
    let r = c.args.region in
    let point = IsPartitionPoint-from_clause (λ (l : CutList). region_before l.region r) xs _ c.partition_point-place.ensures.partitioned (regions_parted r xs c.requires) (λ b r f k. search rules) in
    ap (λ b. cond b (Some c.in-Some.list.now) None) c.if-eq.ensures ∙ (ap (kept r) c.in-Some.ensures ∙ sym (found_by_halves r xs c.partition_point-place.result c.requires c.partition_point-place.ensures.bound point))

pub returns-else-eq : goal.returns-else-eq
returns-else-eq c =
    let xs = c.args.lists.now in
    let r = c.args.region in
    let point = IsPartitionPoint-from_clause (λ (l : CutList). region_before l.region r) xs _ c.partition_point-place.ensures.partitioned (regions_parted r xs c.requires) (λ b r f k. search rules) in
    ap (λ b. cond b (Some c.in-Some.list.now) None) c.if-eq.ensures ∙ (ap (kept r) c.in-Some.ensures ∙ sym (found_by_halves r xs c.partition_point-place.result c.requires c.partition_point-place.ensures.bound point))

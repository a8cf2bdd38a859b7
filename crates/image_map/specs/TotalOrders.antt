-- The orders of regions and of cells are total: antisymmetric, transitive, and equal elements stand alike to all others.
use Rattle.std.specs.Cmp.{IsTotalOrder, nat_cmp_total, int_cmp_total, on_total, then_total}
use Rattle.image_map.specs.Regions.{rank, number, region_cmp, cell_cmp}

pub region_total : IsTotalOrder region_cmp
unfolding region_cmp
region_total = then_total (on_total rank nat_cmp_total) (on_total number nat_cmp_total)

pub cell_total : IsTotalOrder cell_cmp
unfolding cell_cmp
cell_total = then_total (on_total (λ c. c.region) region_total) (then_total (on_total (λ c. c.start) int_cmp_total) (on_total (λ c. c.end) int_cmp_total))

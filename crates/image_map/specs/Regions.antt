-- How regions and cells stand in order. The project's own: Global first, then Frames, OldFrames, Heaps and OldHeaps, each by rising
-- number; cells by their regions, then by their starts, then by their ends.
use Rattle.std.specs.Prelude.{ℕ, Bool}
use Rattle.std.specs.declared.cmp.Ordering.{Ordering}
use Rattle.std.specs.Ordering.{nat_cmp, int_cmp, on, then_cmp, is_eq, is_lt}
use Rattle.image_map.specs.declared.region.Cell.{Cell}
use Rattle.image_map.specs.declared.region.RegionId.{RegionId}
use Rattle.image_map.specs.declared.region.RegionId.TheVariants.{Global, Frame, OldFrame, Heap, OldHeap}

-- where the regions of a kind stand
abbrev pub rank : RegionId → ℕ
rank Global = 0
rank (Frame procedure) = 1
rank (OldFrame procedure) = 2
rank (Heap key) = 3
rank (OldHeap key) = 4

-- the number by which a region of its kind is known
abbrev pub number : RegionId → ℕ
number Global = 0
number (Frame procedure) = procedure
number (OldFrame procedure) = procedure
number (Heap key) = key
number (OldHeap key) = key

unfoldable pub region_cmp : RegionId → RegionId → Ordering
region_cmp a b = then_cmp (on rank nat_cmp) (on number nat_cmp) a b

abbrev pub same_region : RegionId → RegionId → Bool
same_region a b = is_eq (region_cmp a b)

abbrev pub region_before : RegionId → RegionId → Bool
region_before a b = is_lt (region_cmp a b)

-- by the ends of cells alone
abbrev pub ends_cmp : Cell → Cell → Ordering
ends_cmp a b = then_cmp (on (λ c. c.start) int_cmp) (on (λ c. c.end) int_cmp) a b

unfoldable pub cell_cmp : Cell → Cell → Ordering
cell_cmp a b = then_cmp (on (λ c. c.region) region_cmp) ends_cmp a b

abbrev pub same_cell : Cell → Cell → Bool
same_cell a b = is_eq (cell_cmp a b)

abbrev pub cell_before : Cell → Cell → Bool
cell_before a b = is_lt (cell_cmp a b)

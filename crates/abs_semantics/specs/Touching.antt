-- Which cells ranges of bytes touch, and which cell a range is. The rules are the project's own.
use Rattle.std.specs.Prelude.{ℕ, zero, suc, ◌==◌, ◌&&◌, not, Bool, true, false, ℤ, pos, ◌+ℤ◌, ◌-ℤ◌, int_le, int_lt, if◌then◌else◌, List, [], ◌∷◌, ◌++◌, Option, Some, None, is_some, find}
use Rattle.std.specs.Int.{int_max}
use Rattle.std.specs.List.{list_any}
use Rattle.std.specs.Ordering.{int_eq}
use Rattle.image_map.specs.declared.region.Cell.{Cell}
use Rattle.image_map.specs.declared.region.RegionId.{RegionId}
use Rattle.image_map.specs.declared.region.RegionId.TheVariants.{Global, Frame, OldFrame, Heap, OldHeap}
use Rattle.image_map.specs.Regions.{same_region}
use Rattle.alocs.specs.Cells.{Division, cells_of, holds}
use Rattle.strided.specs.Interval.{Interval}
use Rattle.strided.specs.Operations.{clip, count}
use Rattle.vset.specs.declared.part.Part.{Part}
use Rattle.abs_semantics.specs.Joins.{has_length}

-- -- Ranges of `len` bytes from the members of an interval on

-- the members whose ranges share a byte with a cell
abbrev pub meeting : Interval → ℕ → Cell → Option Interval
meeting si len c = clip si (int_max si.lo ((c.start -ℤ pos len) +ℤ pos 1)) (c.end -ℤ pos 1)

abbrev pub touches : ℕ → Cell → Part → Bool
touches len c x = same_region x.region c.region && is_some (meeting x.si len c)

-- the cell is the range of these members, which are one then
abbrev pub is_range : ℕ → Cell → Interval → Bool
is_range len c si = int_eq si.lo c.start && int_eq si.hi c.start && has_length len c

abbrev pub is_other : ℕ → Cell → Option Interval → Bool
is_other len c None = false
is_other len c (Some si) = not (is_range len c si)

-- a range touches the cell that isn't the cell
abbrev pub crosses : ℕ → Cell → Part → Bool
crosses len c x = same_region x.region c.region && is_other len c (meeting x.si len c)

abbrev pub any_touches : ℕ → List Part → Cell → Bool
any_touches len xs c = list_any (touches len c) xs

abbrev pub any_crosses : ℕ → List Part → Cell → Bool
any_crosses len xs c = list_any (crosses len c) xs

-- -- One place

-- whether the region names one thing alone: the image, or the newest activation or block
abbrev pub names_one : RegionId → Bool
names_one Global = true
names_one (Frame procedure) = true
names_one (OldFrame procedure) = false
names_one (Heap key) = true
names_one (OldHeap key) = false

abbrev pub one_offset : Part → Option Part
one_offset x = if x.si.stride == 0 then Some x else None

-- the place, where there is one alone
abbrev pub lone_place : List Part → Option Part
lone_place (x ∷ []) = one_offset x
lone_place _ = None

abbrev pub in_one_thing : Option Part → Option Part
in_one_thing None = None
in_one_thing (Some x) = if names_one x.region then Some x else None

-- the place, where it is one of one thing, so that its bytes are these and no others
abbrev pub sure_place : List Part → Option Part
sure_place xs = in_one_thing (lone_place xs)

-- -- The cell that is a range

abbrev pub if_range : ℤ → ℕ → Option Cell → Option Cell
if_range offset len None = None
if_range offset len (Some c) = if int_eq c.start offset && has_length len c then Some c else None

abbrev pub cell_at : Division → RegionId → ℤ → ℕ → Option Cell
cell_at d r offset len = if_range offset len (find (holds offset) (cells_of d r))

-- a cell before others, where all are there
abbrev pub with_cell : Option Cell → Option (List Cell) → Option (List Cell)
with_cell None cs = None
with_cell (Some c) None = None
with_cell (Some c) (Some cs) = Some (c ∷ cs)

abbrev pub both_lists : Option (List Cell) → Option (List Cell) → Option (List Cell)
both_lists None ds = None
both_lists (Some cs) None = None
both_lists (Some cs) (Some ds) = Some (cs ++ ds)

-- so many offsets, each a stride above the one before
abbrev pub offsets : ℕ → ℕ → ℤ → List ℤ
offsets zero stride from = []
offsets (suc n) stride from = from ∷ offsets n stride (from +ℤ pos stride)

abbrev pub members : Interval → List ℤ
members si = offsets (count si) si.stride si.lo

-- the cells that the ranges are, where each is one
unfoldable pub cells_at : Division → ℕ → RegionId → List ℤ → Option (List Cell)
cells_at d len r [] = Some []
cells_at d len r (o ∷ os) = with_cell (cell_at d r o len) (cells_at d len r os)

unfoldable pub cells_of_parts : Division → ℕ → List Part → Option (List Cell)
cells_of_parts d len [] = Some []
cells_of_parts d len (x ∷ xs) = both_lists (cells_at d len x.region (members x.si)) (cells_of_parts d len xs)

-- a cell lies within the range of a part's one offset
abbrev pub is_within : ℕ → Part → Cell → Bool
is_within len x c = same_region x.region c.region && int_le x.si.lo c.start && int_le c.end (x.si.lo +ℤ pos len)

-- the ranges of two parts' one offsets share a byte
abbrev pub overlap : ℕ → Part → Part → Bool
overlap len x y = same_region x.region y.region && int_lt x.si.lo (y.si.lo +ℤ pos len) && int_lt y.si.lo (x.si.lo +ℤ pos len)

-- -- Return slots

abbrev pub is_frame : RegionId → Bool
is_frame (Frame procedure) = true
is_frame (OldFrame procedure) = true
is_frame _ = false

abbrev pub slot_of : RegionId → Cell
slot_of r = record { region = r; start = pos 0; end = pos 4 }

-- a range reaches into the return slot of an activation
abbrev pub touches_slot : ℕ → Part → Bool
touches_slot len x = is_frame x.region && is_some (meeting x.si len (slot_of x.region))

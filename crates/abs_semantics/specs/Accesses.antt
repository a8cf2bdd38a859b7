-- What is read at an address in an abstract state, and what a write leaves. The rules are the project's own.
use Rattle.std.specs.Prelude.{ℕ, nat_lt, ◌&&◌, ◌||◌, not, Bool, true, false, pos, int_lt, if◌then◌else◌, List, [], ◌∷◌, ◌++◌, map, sum_by, Option, Some, None}
use Rattle.std.specs.List.{list_any}
use Rattle.image_map.specs.declared.image.Image.{Image}
use Rattle.image_map.specs.declared.image.Segment.{Segment}
use Rattle.image_map.specs.declared.region.Cell.{Cell}
use Rattle.image_map.specs.declared.region.RegionId.TheVariants.{Global}
use Rattle.image_map.specs.Memory.{has_flag}
use Rattle.image_map.specs.Regions.{same_region}
use Rattle.image_map.specs.Whole.{end_of as segment_end}
use Rattle.alocs.specs.Cells.{Division}
use Rattle.strided.specs.Operations.{count}
use Rattle.vset.specs.declared.facts.CmpFact.{CmpFact}
use Rattle.vset.specs.declared.facts.CmpPlace.{CmpPlace}
use Rattle.vset.specs.declared.facts.CmpPlace.TheVariants as place
use Rattle.vset.specs.declared.part.Part.{Part}
use Rattle.vset.specs.Values.{Values, Top, Parts}
use Rattle.vset.specs.Operations.{join}
use Rattle.abs_semantics.specs.declared.parts.CellValue.{CellValue}
use Rattle.abs_semantics.specs.declared.parts.Reason.{Reason}
use Rattle.abs_semantics.specs.States.{AbsState, value_at, rebuilt}
use Rattle.abs_semantics.specs.Joins.{held_by}
use Rattle.abs_semantics.specs.Resolve.{Resolved, resolve}
use Rattle.abs_semantics.specs.Touching.{any_touches, any_crosses, is_range, touches, sure_place, cell_at, cells_of_parts}

abbrev pub has_no_reason : List Reason → Bool
has_no_reason [] = true
has_no_reason (r ∷ rs) = false

-- the places, where there is no reason that the address may mean others
abbrev pub sure_entries : Resolved → Option (List Part)
sure_entries r = if has_no_reason r.reasons then Some r.entries else None

-- -- Reading

abbrev pub number_of_members : List Part → ℕ
number_of_members xs = sum_by (λ (x : Part). count x.si) xs

-- at most 64 members are read one by one
abbrev pub cells_of_few : Division → ℕ → Option (List Part) → Option (List Cell)
cells_of_few d len None = None
cells_of_few d len (Some xs) = if nat_lt 64 (number_of_members xs) then None else cells_of_parts d len xs

-- the cells that a read of `len` bytes is made of, at a node of procedure p; None where they aren't known
unfoldable pub cells_read : AbsState → Division → ℕ → Values → ℕ → Option (List Cell)
cells_read a d p v len = cells_of_few d len (sure_entries (resolve a p v len))

-- the values of some cells, put to others
abbrev pub joined_onto : AbsState → Values → List Cell → Values
joined_onto a into [] = into
joined_onto a into (c ∷ cs) = joined_onto a (join into (value_at a c)) cs

abbrev pub value_of_cells : AbsState → Option (List Cell) → Values
value_of_cells a None = Top
value_of_cells a (Some cs) = joined_onto a (Parts []) cs

unfoldable pub read : AbsState → Division → ℕ → Values → ℕ → Values
read a d p v len = value_of_cells a (cells_read a d p v len)

-- -- Cells that a write changes

-- a segment that may be written (PF_W) has a byte of the cell
abbrev pub is_open_at : Cell → Segment → Bool
is_open_at c s = has_flag 2 s && (int_lt (pos s.start) c.end && int_lt c.start (pos (segment_end s)))

-- no write changes a cell of the image outside the segments that may be written
abbrev pub may_change : Image → Cell → Bool
may_change image c = not (same_region c.region Global) || list_any (is_open_at c) image.segments

abbrev pub lasts : (Cell → Bool) → CmpPlace → Bool
lasts touched (place.Reg r) = true
lasts touched (place.Cell c) = not (touched c)

-- what is known of the last comparison, where its place isn't touched
abbrev pub untouched_fact : (Cell → Bool) → Option CmpFact → Option CmpFact
untouched_fact touched None = None
untouched_fact touched (Some f) = if lasts touched f.place then Some f else None

abbrev pub without_value : Cell → CellValue
without_value c = record { cell = c; value = Top }

abbrev pub changed_value : Image → AbsState → (Cell → Bool) → (Cell → Values) → Cell → Values
changed_value image a touched given c = if touched c && may_change image c then given c else value_at a c

-- A state after a write: the cells that it touches hold what is given for them. The cells that held nothing and may now are listed.
abbrev pub overwritten : Image → AbsState → (Cell → Bool) → (Cell → Values) → List Cell → AbsState
overwritten image a touched given cs =
    record a { cells = rebuilt (changed_value image a touched given) (a.cells ++ map without_value cs); fact = untouched_fact touched a.fact }

-- all that a write may change, where the places of a write aren't known
abbrev pub overwritten_anywhere : Image → AbsState → AbsState
overwritten_anywhere image a = overwritten image a (may_change image) (λ c. Top) []

-- -- Writing

-- a cell that the write is, and any other that it touches
abbrev pub value_if_range : ℕ → Part → Values → Cell → Values
value_if_range len x w c = if is_range len c x.si then held_by c w else Top

abbrev pub listed : Option Cell → List Cell
listed None = []
listed (Some c) = c ∷ []

-- the bytes of this place and no others
abbrev pub written_there : Image → AbsState → Division → ℕ → Values → Part → AbsState
written_there image a d len w x =
    overwritten image a (λ c. touches len c x) (value_if_range len x w) (listed (cell_at d x.region x.si.lo len))

-- the value that a cell had or the one that is written, where each range that touches the cell is the cell
abbrev pub value_if_met : AbsState → ℕ → Values → List Part → Cell → Values
value_if_met a len w xs c = if any_crosses len xs c then Top else held_by c (join (value_at a c) w)

-- the bytes of one of these places
abbrev pub written_somewhere : Image → AbsState → ℕ → Values → List Part → AbsState
written_somewhere image a len w xs = overwritten image a (any_touches len xs) (value_if_met a len w xs) []

abbrev pub written_by : Image → AbsState → Division → ℕ → Values → List Part → Option Part → AbsState
written_by image a d len w xs (Some x) = written_there image a d len w x
written_by image a d len w xs None = written_somewhere image a len w xs

abbrev pub written_to : Image → AbsState → Division → ℕ → Values → Option (List Part) → AbsState
written_to image a d len w None = overwritten_anywhere image a
written_to image a d len w (Some xs) = written_by image a d len w xs (sure_place xs)

-- the state after a write of `len` bytes that hold the value w to the address v, at a node of procedure p
unfoldable pub write : AbsState → Division → Image → ℕ → Values → ℕ → Values → AbsState
write a d image p v len w = written_to image a d len w (sure_entries (resolve a p v len))

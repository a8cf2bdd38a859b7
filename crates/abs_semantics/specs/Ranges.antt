-- Reads and writes of many bytes at once: those of repeated string instructions, and of externs that fill a buffer. The rules are the
-- project's own.
use Rattle.std.specs.Prelude.{ℕ, zero, suc, ◌+◌, ◌*◌, ◌/◌, ◌%◌, ◌^◌, not, Bool, false, pos, ◌+ℤ◌, if◌then◌else◌, List, [], ◌∷◌, filter, Option, Some, None}
use Rattle.std.specs.Int.{int_gap, cast_signed, w32}
use Rattle.image_map.specs.declared.image.Image.{Image}
use Rattle.image_map.specs.declared.region.Cell.{Cell}
use Rattle.ia32_types.specs.Numbers.{size}
use Rattle.ia32_semantics.specs.State.{little_endian}
use Rattle.alocs.specs.Cells.{Division, cells_of}
use Rattle.abs_alu.specs.Words.{number}
use Rattle.vset.specs.declared.part.Part.{Part}
use Rattle.vset.specs.Values.{Values, Top}
use Rattle.abs_semantics.specs.declared.parts.RangeValue.{RangeValue}
use Rattle.abs_semantics.specs.declared.parts.RangeValue.TheVariants as range
use Rattle.abs_semantics.specs.States.{AbsState, value_at}
use Rattle.abs_semantics.specs.Joins.{held_by}
use Rattle.abs_semantics.specs.Resolve.{resolve}
use Rattle.abs_semantics.specs.Touching.{any_touches, touches, is_within, overlap, lone_place, sure_place, cell_at}
use Rattle.abs_semantics.specs.Accesses.{sure_entries, overwritten, overwritten_anywhere}

-- -- Reading

abbrev pub value_of_cell : AbsState → Option Cell → Values
value_of_cell a None = Top
value_of_cell a (Some c) = value_at a c

-- the place of a range, where it is one alone
abbrev pub place_in : Option (List Part) → Option Part
place_in None = None
place_in (Some xs) = lone_place xs

abbrev pub lone_range : AbsState → ℕ → Values → ℕ → Option Part
lone_range a p v len = place_in (sure_entries (resolve a p v len))

-- the cell that is so many bytes, at a distance from the start of a range
abbrev pub value_within : AbsState → Division → ℕ → ℕ → Option Part → Values
value_within a d distance bytes None = Top
value_within a d distance bytes (Some x) = value_of_cell a (cell_at d x.region (x.si.lo +ℤ pos distance) bytes)

-- the value of these bytes of the `len` at the address v, at a node of procedure p
unfoldable pub read_range : AbsState → Division → ℕ → Values → ℕ → ℕ → ℕ → Values
read_range a d p v len distance bytes = value_within a d distance bytes (lone_range a p v len)

-- -- What a range holds after a write

-- the bytes from a distance on of a number that is stored over and over, the lowest first
unfoldable pub repeated : ℕ → ℕ → ℕ → ℕ → List ℕ
repeated bytes n distance zero = []
repeated bytes n distance (suc count) = n / 2 ^ (8 * (distance % bytes)) % 256 ∷ repeated bytes n (distance + 1) count

abbrev pub repeated_value : ℕ → ℕ → ℕ → ℕ → Values
repeated_value bytes n distance count = number (cast_signed w32 (little_endian (repeated bytes n distance count)))

abbrev pub is_clear : ℕ → Part → Option Part → Bool
is_clear len target None = false
is_clear len target (Some source) = not (overlap len source target)

-- what is read at the source, where its range doesn't touch the target
abbrev pub copied : AbsState → Division → ℕ → Values → ℕ → Part → ℕ → ℕ → Values
copied a d p v len target distance count =
    if is_clear len target (lone_range a p v len) then read_range a d p v len distance count else Top

-- the value of so many bytes of the target, at a distance from its start
abbrev pub stored : AbsState → Division → ℕ → ℕ → Part → RangeValue → ℕ → ℕ → Values
stored a d p len target range.Any distance count = Top
stored a d p len target (range.Number n width) distance count = repeated_value (size width) n distance count
stored a d p len target (range.Copy v) distance count = copied a d p v len target distance count

-- -- Writing

-- a cell that lies in the range as a whole, and any other that it touches
abbrev pub value_if_within : AbsState → Division → ℕ → ℕ → Part → RangeValue → Cell → Values
value_if_within a d p len x w c =
    if is_within len x c then held_by c (stored a d p len x w (int_gap x.si.lo c.start) (int_gap c.start c.end)) else Top

abbrev pub range_written_there : Image → AbsState → Division → ℕ → ℕ → RangeValue → Part → AbsState
range_written_there image a d p len w x =
    overwritten image a (λ c. touches len c x) (value_if_within a d p len x w) (filter (is_within len x) (cells_of d x.region))

abbrev pub range_written_by : Image → AbsState → Division → ℕ → ℕ → RangeValue → List Part → Option Part → AbsState
range_written_by image a d p len w xs (Some x) = range_written_there image a d p len w x
range_written_by image a d p len w xs None = overwritten image a (any_touches len xs) (λ c. Top) []

abbrev pub range_written_to : Image → AbsState → Division → ℕ → ℕ → RangeValue → Option (List Part) → AbsState
range_written_to image a d p len w None = overwritten_anywhere image a
range_written_to image a d p len w (Some xs) = range_written_by image a d p len w xs (sure_place xs)

abbrev pub written_range : Image → AbsState → Division → ℕ → Values → Option ℕ → RangeValue → AbsState
written_range image a d p v None w = overwritten_anywhere image a
written_range image a d p v (Some len) w = range_written_to image a d p len w (sure_entries (resolve a p v len))

-- The state after a write of many bytes to the address v, at a node of procedure p. None: it isn't known how many.
unfoldable pub write_range : AbsState → Division → Image → ℕ → Values → Option ℕ → RangeValue → AbsState
write_range a d image p v len w = written_range image a d p v len w

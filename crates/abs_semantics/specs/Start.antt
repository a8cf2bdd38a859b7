-- What is known where a run starts, and states without cells that may hold every value. The project's own.
use Rattle.std.specs.Prelude.{ℕ, ◌==◌, ◌||◌, not, Bool, true, false, pos, if◌then◌else◌, List, [], ◌∷◌, ◌++◌, map, filter, Option, Some, None, option_map}
use Rattle.std.specs.Int.{int_gap, cast_unsigned, w32}
use Rattle.image_map.specs.declared.image.Image.{Image}
use Rattle.image_map.specs.declared.region.Cell.{Cell}
use Rattle.image_map.specs.declared.region.RegionId.TheVariants.{Global, Frame}
use Rattle.image_map.specs.Queries.{byte_at}
use Rattle.image_map.specs.Regions.{same_region, same_cell}
use Rattle.ia32_semantics.specs.State.{bytes_at, little_endian}
use Rattle.ia32_semantics.specs.Step.{HALT}
use Rattle.alocs.specs.Cells.{Division, cells_of}
use Rattle.strided.specs.Interval.{one}
use Rattle.vset.specs.Values.{Values, Top, Parts}
use Rattle.vset.specs.Operations.{part}
use Rattle.abs_semantics.specs.declared.parts.CellValue.{CellValue}
use Rattle.abs_semantics.specs.States.{AbsState, rebuilt}
use Rattle.abs_semantics.specs.Joins.{has_length}
use Rattle.abs_semantics.specs.Operands.{word_number}
use Rattle.abs_semantics.specs.Touching.{cell_at, slot_of}
use Rattle.abs_semantics.specs.Accesses.{without_value, listed}

-- ESP points to the entry's return slot, which lies 12 above a multiple of 16, and DF is clear.
abbrev pub entry_state : ℕ → AbsState
entry_state entry =
    record {
      registers = λ n. if n == 4 then Parts (part (Frame entry) (one (pos 0)) ∷ []) else Top;
      flags = λ n t. if n == 5 then not t else true;
      cells = [];
      live = entry ∷ [];
      older = [];
      links = [];
      aligns = record { region = Frame entry; number = 12 } ∷ [];
      blocks = [];
      fact = None;
      root = entry;
    }

-- -- What memory holds at first

abbrev pub number_or_top : Option ℕ → Values
number_or_top None = Top
number_or_top (Some n) = word_number n

-- the number of a cell's bytes in the image; none where one of them may be any
abbrev pub image_number : Image → Cell → Option ℕ
image_number image c = option_map little_endian (bytes_at (byte_at image) (cast_unsigned w32 c.start) (int_gap c.start c.end))

-- cells of other lengths hold every value
abbrev pub image_value : Image → Cell → Values
image_value image c =
    if has_length 1 c || (has_length 2 c || has_length 4 c) then number_or_top (image_number image c) else Top

-- the image's bytes, and HALT in the entry's return slot
abbrev pub first_value : Image → ℕ → Cell → Values
first_value image entry c =
    if same_region c.region Global then image_value image c else (if same_cell (slot_of (Frame entry)) c then word_number HALT else Top)

-- the cells of the image, and the entry's return slot where it is one
abbrev pub first_cells : Division → ℕ → List Cell
first_cells d entry = cells_of d Global ++ listed (cell_at d (Frame entry) (pos 0) 4)

unfoldable pub initial_state : Image → Division → ℕ → AbsState
initial_state image d entry = record (entry_state entry) { cells = rebuilt (first_value image entry) (map without_value (first_cells d entry)) }

-- -- The form of states

abbrev pub is_top : Values → Bool
is_top Top = true
is_top (Parts ps) = false

-- a state without entries of cells that may hold every value
unfoldable pub normalised : AbsState → AbsState
normalised a = record a { cells = filter (λ (e : CellValue). not (is_top e.value)) a.cells }

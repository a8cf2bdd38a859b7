-- What is read and written at the edges of the rules, computed.
use Rattle.std.proofs.Common.{◌≡◌, ℕ, true, List, [], ◌∷◌, None, refl, ℤ}
use Rattle.std.specs.Prelude.{is_some, pos, negsuc, Some}
use Rattle.image_map.specs.declared.image.Image.{Image}
use Rattle.image_map.specs.declared.image.Segment.{Segment}
use Rattle.image_map.specs.declared.region.Cell.{Cell}
use Rattle.image_map.specs.declared.region.RegionId.{RegionId}
use Rattle.image_map.specs.declared.region.RegionId.TheVariants.{Global, Frame}
use Rattle.image_map.specs.Regions.{region_cmp, cell_cmp}
use Rattle.ia32_types.specs.declared.Width.TheVariants.{B8}
use Rattle.ia32_semantics.specs.State.{little_endian}
use Rattle.alocs.specs.Cells.{Division, words}
use Rattle.vset.specs.declared.part.Part.{Part}
use Rattle.strided.specs.Interval.{interval, one}
use Rattle.strided.specs.Gcd.{gcd, gcd_within}
use Rattle.strided.specs.Operations.{clip, span, first_from, spaced, stepped, count, joint_stride, join as interval_join}
use Rattle.vset.specs.Values.{Values, Top, Parts, settled}
use Rattle.vset.specs.Operations.{part, join, with_parts, with_part}
use Rattle.abs_semantics.specs.declared.parts.CellValue.{CellValue}
use Rattle.abs_semantics.specs.declared.parts.RangeValue.TheVariants as range
use Rattle.abs_semantics.specs.States.{AbsState, rebuilt}
use Rattle.abs_semantics.specs.Resolve.{verdict, rising_onto, levels, resolve}
use Rattle.abs_semantics.specs.Touching.{cells_at, cells_of_parts}
use Rattle.abs_semantics.specs.Accesses.{cells_of_few, read, cells_read, write}
use Rattle.abs_semantics.specs.Ranges.{repeated, read_range, write_range}

-- -- A state in procedure 1, whose frame is cut at -8, -4, 0 and 4

abbrev cell : RegionId → ℤ → ℤ → Cell
cell r start end = record { region = r; start = start; end = end }

abbrev division : Division
division =
    record { lists = record { region = Frame 1; cuts = negsuc 7 ∷ negsuc 3 ∷ pos 0 ∷ pos 4 ∷ [] } ∷ []; image = record { start = pos 4096; end = pos 4100 } ∷ [] }

abbrev segment : ℕ → Segment
segment flags = record { start = 4096; flags = flags; bytes = 1 ∷ 2 ∷ 3 ∷ 4 ∷ [] }

abbrev image : ℕ → Image
image flags = record { segments = segment flags ∷ []; entry = 4096; symbols = []; externs = []; any_bytes = []; words = []; bias = 0 }

abbrev number : ℤ → Values
number z = Parts (part Global (one z) ∷ [])

abbrev at : RegionId → ℤ → Values
at r z = Parts (part r (one z) ∷ [])

abbrev state : List CellValue → AbsState
state cells =
    record {
      registers = λ n. Top;
      flags = λ n t. true;
      cells = cells;
      live = 1 ∷ [];
      older = [];
      links = [];
      aligns = [];
      blocks = [];
      fact = None;
      root = 1;
    }

abbrev holding : Cell → Values → CellValue
holding c v = record { cell = c; value = v }

abbrev low : Cell
low = cell (Frame 1) (negsuc 7) (negsuc 3)

abbrev high : Cell
high = cell (Frame 1) (negsuc 3) (pos 0)

abbrev word : Cell
word = cell Global (pos 4096) (pos 4100)

abbrev both : AbsState
both = state (holding low (number (pos 7)) ∷ holding high (number (pos 9)) ∷ [])

-- -- Reading

one_cell : read both division 1 (at (Frame 1) (negsuc 7)) 4 ≡ number (pos 7)
unfolding read cells_read cells_of_parts cells_at resolve levels verdict rising_onto region_cmp cell_cmp count join settled with_parts with_part
one_cell = refl

-- a word across two cells, and a part of one
across_cells : read both division 1 (at (Frame 1) (negsuc 5)) 4 ≡ Top
unfolding read cells_read cells_of_parts cells_at resolve levels verdict rising_onto region_cmp cell_cmp count join settled with_parts with_part
across_cells = refl

part_of_cell : read both division 1 (at (Frame 1) (negsuc 7)) 2 ≡ Top
unfolding read cells_read cells_of_parts cells_at resolve levels verdict rising_onto region_cmp cell_cmp count join settled with_parts with_part
part_of_cell = refl

-- two cells
abbrev two : Values
two = Parts (part (Frame 1) (interval 4 (negsuc 7) (negsuc 3)) ∷ [])

two_cells : read both division 1 two 4 ≡ Parts (part Global (interval 2 (pos 7) (pos 9)) ∷ [])
unfolding read cells_read cells_of_parts cells_at resolve levels verdict rising_onto region_cmp cell_cmp count join settled with_parts with_part interval_join joint_stride gcd gcd_within spaced stepped
two_cells = refl

-- 64 members are read one by one, and one more isn't; the frame of another procedure is cut at each word
abbrev words_up_to : ℤ → List Part
words_up_to z = part (Frame 2) (interval 4 (negsuc 511) z) ∷ []

sixty_four : is_some (cells_of_few division 4 (Some (words_up_to (negsuc 259)))) ≡ true
unfolding cells_of_parts cells_at region_cmp count words
sixty_four = refl

sixty_five : cells_of_few division 4 (Some (words_up_to (negsuc 255))) ≡ None
unfolding cells_of_parts cells_at region_cmp count words
sixty_five = refl

sixty_five_cells : is_some (cells_of_parts division 4 (words_up_to (negsuc 255))) ≡ true
unfolding cells_of_parts cells_at region_cmp count words
sixty_five_cells = refl

-- -- Writing

abbrev cells_after : AbsState → List CellValue
cells_after a = a.cells

-- one place: the value stands there
one_place : cells_after (write both division (image 2) 1 (at (Frame 1) (negsuc 7)) 4 (number (pos 1))) ≡ holding low (number (pos 1)) ∷ holding high (number (pos 9)) ∷ []
unfolding write rebuilt cell_cmp clip span first_from spaced stepped resolve levels verdict rising_onto region_cmp
one_place = refl

-- two places: either may have stayed
two_places : cells_after (write both division (image 2) 1 two 4 (number (pos 9)))
    ≡ holding low (Parts (part Global (interval 2 (pos 7) (pos 9)) ∷ [])) ∷ holding high (number (pos 9)) ∷ []
unfolding write rebuilt cell_cmp clip span first_from spaced stepped resolve levels verdict rising_onto region_cmp join settled with_parts with_part interval_join joint_stride gcd gcd_within
two_places = refl

-- a word across two cells: both may hold anything
word_across : cells_after (write both division (image 2) 1 (at (Frame 1) (negsuc 5)) 4 (number (pos 1))) ≡ []
unfolding write rebuilt cell_cmp clip span first_from spaced stepped resolve levels verdict rising_onto region_cmp
word_across = refl

-- one byte of a cell
one_byte : cells_after (write both division (image 2) 1 (at (Frame 1) (negsuc 0)) 1 (number (pos 1))) ≡ holding low (number (pos 7)) ∷ []
unfolding write rebuilt cell_cmp clip span first_from spaced stepped resolve levels verdict rising_onto region_cmp
one_byte = refl

-- an address that may be any: frames, and the segments that may be written
anywhere : cells_after (write (state (holding word (number (pos 3)) ∷ both.cells)) division (image 2) 1 Top 4 (number (pos 1))) ≡ []
unfolding write rebuilt cell_cmp resolve region_cmp
anywhere = refl

anywhere_but_constants : cells_after (write (state (holding word (number (pos 3)) ∷ both.cells)) division (image 4) 1 Top 4 (number (pos 1))) ≡ holding word (number (pos 3)) ∷ []
unfolding write rebuilt cell_cmp resolve region_cmp
anywhere_but_constants = refl

-- -- Ranges

-- a byte stored eight times
bytes_over_cells : cells_after (write_range both division (image 2) 1 (at (Frame 1) (negsuc 7)) (Some 8) (range.Number 1 B8))
    ≡ holding low (number (pos 16843009)) ∷ holding high (number (pos 16843009)) ∷ []
unfolding write_range rebuilt repeated little_endian cell_cmp clip span first_from spaced stepped resolve levels verdict rising_onto region_cmp settled
bytes_over_cells = refl

-- six bytes leave the second cell in part
bytes_over_part : cells_after (write_range both division (image 2) 1 (at (Frame 1) (negsuc 7)) (Some 6) (range.Number 1 B8)) ≡ holding low (number (pos 16843009)) ∷ []
unfolding write_range rebuilt repeated little_endian cell_cmp clip span first_from spaced stepped resolve levels verdict rising_onto region_cmp settled
bytes_over_part = refl

-- a word copied four bytes up
word_copied : cells_after (write_range both division (image 2) 1 (at (Frame 1) (negsuc 3)) (Some 4) (range.Copy (at (Frame 1) (negsuc 7)))) ≡ holding low (number (pos 7)) ∷ holding high (number (pos 7)) ∷ []
unfolding write_range read_range rebuilt cell_cmp clip span first_from spaced stepped resolve levels verdict rising_onto region_cmp settled
word_copied = refl

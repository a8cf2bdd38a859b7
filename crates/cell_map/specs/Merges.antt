-- Two rising lists of cells put into one, in one pass, and compared in one pass. The project's own.
use Rattle.std.specs.Prelude.{ℕ, ◌&&◌, not, Bool, true, false, if◌then◌else◌, List, [], ◌∷◌, ◌++◌, is_some}
use Rattle.std.specs.List.{list_all}
use Rattle.image_map.specs.declared.region.Cell.{Cell}
use Rattle.image_map.specs.declared.region.RegionId.{RegionId}
use Rattle.image_map.specs.declared.region.RegionId.TheVariants.{Global, Frame, OldFrame, Heap, OldHeap}
use Rattle.image_map.specs.Regions.{same_cell, cell_before}
use Rattle.vset.specs.declared.part.Both.{Both}
use Rattle.vset.specs.declared.part.Both.TheVariants.{Joined, Widened}
use Rattle.vset.specs.Values.{Values, Top, Parts}
use Rattle.vset.specs.Operations.{of_both, below}
use Rattle.abs_semantics.specs.declared.parts.CellValue.{CellValue}
use Rattle.abs_semantics.specs.declared.parts.Known.{Known}
use Rattle.abs_semantics.specs.States.{value_in, has_procedure, known_of}
use Rattle.abs_semantics.specs.Joins.{held_by}
use Rattle.abs_semantics.specs.Below.{implies}
use Rattle.cell_map.specs.declared.regions.Side.{Side}
use Rattle.cell_map.specs.declared.regions.Side.TheVariants.{First, Second, Together}

-- -- Regions

-- the regions that a state has, by its lists
pub record Regions : Type 0 where
  pub live : List ℕ
  pub older : List ℕ
  pub blocks : List Known

abbrev pub has_region : Regions → RegionId → Bool
has_region s Global = true
has_region s (Frame p) = has_procedure p s.live
has_region s (OldFrame p) = has_procedure p s.older
has_region s (Heap key) = is_some (known_of (Heap key) s.blocks)
has_region s (OldHeap key) = is_some (known_of (OldHeap key) s.blocks)

-- whose values a region's cells have
abbrev pub side_of : Both → Regions → Regions → RegionId → Side
side_of Joined a b r =
    if has_region a r && not (has_region b r) then First
    else (if has_region b r && not (has_region a r) then Second else Together)
side_of Widened a b r = if has_region a r then Together else Second

abbrev pub value_by : Both → Side → Cell → Values → Values → Values
value_by both First c v w = v
value_by both Second c v w = w
value_by both Together c v w = held_by c (of_both both v w)

-- the value of a cell that has two
abbrev pub value_of_both : Both → Regions → Regions → Cell → Values → Values → Values
value_of_both both a b c v w = value_by both (side_of both a b c.region) c v w

-- -- One list of two

-- what is listed of a cell: nothing, where it may hold every value
abbrev pub entry : Cell → Values → List CellValue
entry c Top = []
entry c (Parts ps) = record { cell = c; value = Parts ps } ∷ []

-- the value of a cell that one list alone has, where its region is of the side that is wanted
abbrev pub is_side : Side → Side → Bool
is_side First First = true
is_side Second Second = true
is_side Together Together = true
is_side _ _ = false

abbrev pub value_alone : Bool → Values → Values
value_alone wanted v = if wanted then v else Top

abbrev pub is_wanted : Both → Regions → Regions → Side → CellValue → Bool
is_wanted both a b side e = is_side side (side_of both a b e.cell.region)

unfoldable pub alone : Both → Regions → Regions → Side → List CellValue → List CellValue
alone both a b side [] = []
alone both a b side (e ∷ es) = entry e.cell (value_alone (is_wanted both a b side e) e.value) ++ alone both a b side es

unfoldable pub second_alone : (Cell → Values → Values → Values) → List CellValue → List CellValue
second_alone f [] = []
second_alone f (y ∷ ys) = entry y.cell (f y.cell Top y.value) ++ second_alone f ys

-- a cell of the first list among those of the second, before what becomes of the rest
unfoldable pub merged_from : (Cell → Values → Values → Values) → CellValue → (List CellValue → List CellValue) → List CellValue → List CellValue
merged_from f x rest [] = entry x.cell (f x.cell x.value Top) ++ rest []
merged_from f x rest (y ∷ ys) =
    if same_cell x.cell y.cell then entry x.cell (f x.cell x.value y.value) ++ rest ys
    else (if cell_before x.cell y.cell then entry x.cell (f x.cell x.value Top) ++ rest (y ∷ ys)
    else entry y.cell (f y.cell Top y.value) ++ merged_from f x rest ys)

unfoldable pub merged : (Cell → Values → Values → Values) → List CellValue → List CellValue → List CellValue
merged f [] ys = second_alone f ys
merged f (x ∷ xs) ys = merged_from f x (merged f xs) ys

-- -- Comparing

-- a cell of the second list counts where the first state has its region
abbrev pub is_entry_below : Regions → List CellValue → CellValue → Bool
is_entry_below a xs y = implies (has_region a y.cell.region) (below (value_in y.cell xs) y.value)

abbrev pub are_below : Regions → List CellValue → List CellValue → Bool
are_below a xs ys = list_all (is_entry_below a xs) ys

-- what the first of some cells tells of a cell
abbrev pub first_value : Cell → List CellValue → Values
first_value c [] = Top
first_value c (e ∷ es) = if same_cell e.cell c then e.value else Top

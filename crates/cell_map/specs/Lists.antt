-- Cells with their values in order. The project's own.
use Rattle.std.specs.Prelude.{◌≡◌, ◌==◌, ◌&&◌, Bool, true, false, List, [], ◌∷◌}
use Rattle.image_map.specs.declared.region.Cell.{Cell}
use Rattle.image_map.specs.Regions.{cell_before, same_cell, same_region}
use Rattle.vset.specs.Operations.{same_interval, same_values}
use Rattle.abs_semantics.specs.declared.parts.CellValue.{CellValue}
use Rattle.abs_semantics.specs.declared.parts.Known.{Known}
use Rattle.abs_semantics.specs.declared.parts.Link.{Link}
use Rattle.abs_semantics.specs.Joins.{same_link}

-- a cell stands before each of some
abbrev pub IsBefore : Cell → List CellValue → Type 0
IsBefore c [] = Unit {0}
IsBefore c (e ∷ es) = (cell_before c e.cell ≡ true) × IsBefore c es

-- each cell stands before those that follow
abbrev pub AreRising : List CellValue → Type 0
AreRising [] = Unit {0}
AreRising (e ∷ es) = IsBefore e.cell es × AreRising es

-- no cell stands before a cell
abbrev pub IsFrom : Cell → List CellValue → Type 0
IsFrom c [] = Unit {0}
IsFrom c (e ∷ es) = cell_before e.cell c ≡ false

-- two lists have the same elements, by a test
unfoldable pub same_lists : {A : Type 0} → (A → A → Bool) → List A → List A → Bool
same_lists same [] [] = true
same_lists same [] (y ∷ ys) = false
same_lists same (x ∷ xs) [] = false
same_lists same (x ∷ xs) (y ∷ ys) = same x y && same_lists same xs ys

abbrev pub same_entry : CellValue → CellValue → Bool
same_entry x y = same_cell x.cell y.cell && same_values x.value y.value

abbrev pub same_whole : Link → Link → Bool
same_whole l m = same_link l m && same_interval l.off m.off

abbrev pub same_known : Known → Known → Bool
same_known k m = same_region k.region m.region && k.number == m.number

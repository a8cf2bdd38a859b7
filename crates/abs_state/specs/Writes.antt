-- Cells that are put one by one. The project's own.
use Rattle.std.specs.Prelude.{Bool, if◌then◌else◌, List, [], ◌∷◌}
use Rattle.image_map.specs.declared.region.Cell.{Cell}
use Rattle.vset.specs.Values.{Values}
use Rattle.abs_semantics.specs.declared.parts.CellValue.{CellValue}
use Rattle.abs_semantics.specs.States.{with_value}

-- the cells that pass a test, each with the value that a function gives it
unfoldable pub news_of : (Cell → Bool) → (Cell → Values) → List Cell → List CellValue
news_of test given [] = []
news_of test given (c ∷ cs) = if test c then record { cell = c; value = given c } ∷ news_of test given cs else news_of test given cs

abbrev pub put_value : CellValue → List CellValue → List CellValue
put_value e es = with_value e.cell e.value es

-- Cells that get other values, each by what it held. The project's own.
use Rattle.std.specs.Prelude.{Option, Some, None}
use Rattle.image_map.specs.declared.region.Cell.{Cell}
use Rattle.vset.specs.Values.{Values}
use Rattle.abs_semantics.specs.declared.parts.CellValue.{CellValue}

-- the other value, or the one that was there
abbrev pub or_kept : Option Values → Values → Values
or_kept None old = old
or_kept (Some new) old = new

abbrev pub cell_of : CellValue → Cell
cell_of e = e.cell

abbrev pub with_given : (Cell → Values → Values) → CellValue → CellValue
with_given given e = record e { value = given e.cell e.value }

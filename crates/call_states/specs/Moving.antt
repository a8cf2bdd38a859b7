-- Cells of one region that another takes over. The project's own.
use Rattle.std.specs.Prelude.{List, [], ◌∷◌, if◌then◌else◌}
use Rattle.image_map.specs.declared.region.Cell.{Cell}
use Rattle.vset.specs.Values.{Values}
use Rattle.vset.specs.Operations.{join}
use Rattle.abs_semantics.specs.declared.parts.CellValue.{CellValue}
use Rattle.abs_semantics.specs.States.{value_in, with_value}
use Rattle.abs_semantics.specs.Joins.{held_by}
use Rattle.abs_steps.specs.Calls.{is_in, as_of}
use Rattle.call_states.specs.declared.moving.Move.{Move}
use Rattle.call_states.specs.declared.moving.Taking.{Taking}
use Rattle.call_states.specs.declared.moving.Taking.TheVariants as taking

abbrev pub taken : Taking → Cell → Values → Values → Values
taken taking.Kept c own other = own
taken taking.Replaced c own other = other
taken taking.Joined c own other = held_by c (join own other)

-- what a cell of the region holds afterwards
abbrev pub taken_value : List CellValue → Move → Cell → Values
taken_value es m c = taken m.taking c (value_in c es) (value_in (as_of m.from c) es)

abbrev pub moved_value : List CellValue → Move → Cell → Values
moved_value es m c = if is_in m.to c then taken_value es m c else value_in c es

-- some cells, each with the value that a function gives it, put into others one after the other
unfoldable pub put_each : (Cell → Values) → List CellValue → List CellValue → List CellValue
put_each f [] into = into
put_each f (e ∷ es) into = put_each f es (with_value e.cell (f e.cell) into)

-- The states that the sweeps give at the nodes of a program. The project's own.
use Rattle.std.specs.Prelude.{List, map}
use Rattle.call_strings.specs.declared.context.Node.{Node}
use Rattle.abs_semantics.specs.Start.{initial_state}
use Rattle.abs_steps.specs.Successors.{Placed}
use Rattle.sweeps.specs.Sweeps.{Sweep, entry_of, swept}
use Rattle.vsa.specs.Tables.{Table, table_of}
use Rattle.vsa.specs.Analysis.{Analysis, meaning_of, placed_of}
use Rattle.vsa.specs.Closed.{entry_node}

abbrev pub first_table : Analysis → Table
first_table x = table_of (initial_state x.image x.cells x.settings.entry)

-- all sweeps from the entry, in a map of 4,096 nodes at most
unfoldable pub analysed : Analysis → Sweep Node Table
analysed x = swept (meaning_of x) 4096 (entry_node x.settings.entry) (first_table x)

abbrev pub placed_in : Sweep Node Table → List Placed
placed_in w = placed_of (map entry_of w.rows)

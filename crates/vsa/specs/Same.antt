-- Whether two tables of abstract states differ. The project's own.
use Rattle.std.specs.Prelude.{◌==◌, ◌&&◌, Bool}
use Rattle.vset.specs.Operations.{same_values}
use Rattle.cell_map.specs.Lists.{same_lists, same_entry, same_whole, same_known}
use Rattle.abs_semantics.specs.Joins.{same_flag}
use Rattle.abs_state.specs.Same.{same_facts, same_numbers}
use Rattle.vsa.specs.Tables.{Table}

unfoldable pub same_table : Table → Table → Bool
same_table a b =
    same_lists same_values a.registers b.registers
    && (same_lists same_flag a.one b.one
    && (same_lists same_flag a.zero b.zero
    && (same_lists same_entry a.cells b.cells
    && (same_lists same_numbers a.live b.live
    && (same_lists same_numbers a.older b.older
    && (same_lists same_whole a.links b.links
    && (same_lists same_known a.aligns b.aligns
    && (same_lists same_known a.blocks b.blocks
    && (same_facts a.fact b.fact && a.root == b.root)))))))))

use Rattle.std.proofs.Common.{◌≡◌, ◌++◌, ◌-◌, filter}
use Rattle.elf32.specs.Fields.{program_header, rows, rows_from}
use Rattle.elf32.specs.Checks.{is_load}
use Rattle.elf32.proofs.checks.loads.Given as goal

abbrev pub invariant-loop-index : goal.invariant-loop-index
invariant-loop-index l =
    l.loads.items ++ filter is_load (rows_from (program_header l.bytes l.table) l.index (l.count - l.index))
    ≡ filter is_load (rows (program_header l.bytes l.table) l.count)

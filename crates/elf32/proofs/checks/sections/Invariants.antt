use Rattle.std.proofs.Common.{◌≡◌, ◌++◌, ◌-◌}
use Rattle.elf32.specs.Fields.{section_header, rows, rows_from}
use Rattle.elf32.proofs.checks.sections.Given as goal

abbrev pub invariant-loop-index : goal.invariant-loop-index
invariant-loop-index l =
    l.sections.items ++ rows_from (section_header l.bytes l.table) l.index (l.count - l.index)
    ≡ rows (section_header l.bytes l.table) l.count

use Rattle.elf32.specs.Strings.{HaveTables}
use Rattle.elf32.proofs.strings.file_tables.Given as goal

abbrev pub invariant-loop-index : goal.invariant-loop-index
invariant-loop-index l = HaveTables l.bytes l.sections l.bytes l.tables.items l.index

use Rattle.std.proofs.Common.{◌≤◌, length}
use Rattle.elf32.specs.Strings.{HaveTables}
use Rattle.elf32.proofs.strings.joined.Given as goal

abbrev pub invariant-loop-index : goal.invariant-loop-index
invariant-loop-index l = (length l.buffer.items ≤ length l.bytes) × HaveTables l.bytes l.sections l.buffer.items l.tables.items l.index

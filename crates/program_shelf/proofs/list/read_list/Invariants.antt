use Rattle.std.proofs.Common.{length, map}
use Rattle.std.specs.String.{string_bytes}
use Rattle.program_shelf.proofs.ListLemmas.{Resumes}
use Rattle.program_shelf.proofs.list.read_list.Given as goal

abbrev pub invariant-lines : goal.invariant-lines
invariant-lines l = Resumes l.fn.bytes l.rest (map string_bytes l.names.items) l.number

abbrev pub decreases-lines : goal.decreases-lines
decreases-lines l = length l.rest

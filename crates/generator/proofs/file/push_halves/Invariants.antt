use Rattle.std.proofs.Common.{◌≡◌, ◌++◌, length}
use Rattle.generator.specs.Files.{halves}
use Rattle.generator.proofs.file.push_halves.Given as goal

abbrev pub invariant-halves_left : goal.invariant-halves_left
invariant-halves_left l = l.bytes.items ++ halves l.rest ≡ l.fn.bytes.items ++ halves l.fn.halves

abbrev pub decreases-halves_left : goal.decreases-halves_left
decreases-halves_left l = length l.rest

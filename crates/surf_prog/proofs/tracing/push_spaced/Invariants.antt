use Rattle.std.proofs.Common.{◌≡◌, ◌++◌, length}
use Rattle.surf_prog.specs.Tracing.{spaced}
use Rattle.surf_prog.proofs.tracing.push_spaced.Given as goal

abbrev pub invariant-numbers_left : goal.invariant-numbers_left
invariant-numbers_left l = l.text.items ++ spaced l.rest ≡ l.fn.text.items ++ spaced l.fn.numbers

abbrev pub decreases-numbers_left : goal.decreases-numbers_left
decreases-numbers_left l = length l.rest

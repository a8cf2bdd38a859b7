use Rattle.std.proofs.Common.{◌≡◌, ◌+◌, drop}
use Rattle.abs_semantics.specs.Accesses.{number_of_members}
use Rattle.abs_state.proofs.reads.are_few.Given as goal

abbrev pub invariant-loop-x : goal.invariant-loop-x
invariant-loop-x l = number_of_members l.xs + l.left ≡ 64 + number_of_members (drop l.x-index l.xs)

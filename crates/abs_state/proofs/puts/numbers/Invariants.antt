use Rattle.std.proofs.Common.{◌≡◌, length}
use Rattle.abs_semantics.specs.Joins.{with_number}
use Rattle.abs_state.specs.Puts.{folded}
use Rattle.abs_state.proofs.puts.numbers.Given as goal

abbrev pub invariant-loop-n : goal.invariant-loop-n
invariant-loop-n l = folded with_number l.rest l.out.items ≡ folded with_number l.more l.into

abbrev pub decreases-loop-n : goal.decreases-loop-n
decreases-loop-n l = length l.rest

use Rattle.std.proofs.Common.{◌≡◌, length}
use Rattle.abs_semantics.specs.Joins.{with_size}
use Rattle.abs_state.specs.Puts.{folded}
use Rattle.abs_state.proofs.puts.sizes.Given as goal

abbrev pub invariant-loop-k : goal.invariant-loop-k
invariant-loop-k l = folded with_size l.rest l.out.items ≡ folded with_size l.more l.into

abbrev pub decreases-loop-k : goal.decreases-loop-k
decreases-loop-k l = length l.rest

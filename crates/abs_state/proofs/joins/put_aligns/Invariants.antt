use Rattle.std.proofs.Common.{◌≡◌, length}
use Rattle.abs_semantics.specs.Joins.{joined_align}
use Rattle.abs_state.specs.Puts.{folded, known_by}
use Rattle.abs_state.specs.Views.{seen}
use Rattle.abs_state.proofs.joins.put_aligns.Given as goal

abbrev pub invariant-loop-k : goal.invariant-loop-k
invariant-loop-k l = folded (known_by (joined_align (seen l.a) (seen l.b))) l.rest l.out.items ≡ folded (known_by (joined_align (seen l.a) (seen l.b))) l.more l.fn.into.items

abbrev pub decreases-loop-k : goal.decreases-loop-k
decreases-loop-k l = length l.rest

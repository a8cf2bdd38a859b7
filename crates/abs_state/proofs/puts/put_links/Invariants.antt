use Rattle.std.proofs.Common.{◌≡◌, length}
use Rattle.abs_semantics.specs.Joins.{with_link}
use Rattle.abs_state.specs.Puts.{folded}
use Rattle.abs_state.proofs.puts.put_links.Given as goal

abbrev pub invariant-loop-l : goal.invariant-loop-l
invariant-loop-l l = folded with_link l.rest l.links.items ≡ folded with_link l.more l.initial.links.items

abbrev pub decreases-loop-l : goal.decreases-loop-l
decreases-loop-l l = length l.rest

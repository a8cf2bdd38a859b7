use Rattle.std.proofs.Common.{◌≡◌, length}
use Rattle.abs_state.specs.Puts.{folded}
use Rattle.abs_state.specs.Writes.{put_value}
use Rattle.abs_state.proofs.writes.put_all.Given as goal

abbrev pub invariant-loop-e : goal.invariant-loop-e
invariant-loop-e l = folded put_value l.rest l.cells ≡ folded put_value l.news l.initial.cells

abbrev pub decreases-loop-e : goal.decreases-loop-e
decreases-loop-e l = length l.rest

use Rattle.std.proofs.Common.{◌-◌, length}
use Rattle.dynamic_slices.proofs.SliceLemmas.{Done}
use Rattle.dynamic_slices.proofs.marks.mark_sources.Given as goal

abbrev pub invariant-loop-done : goal.invariant-loop-done
invariant-loop-done l = Done l.skip_sp l.steps l.initial.marks l.marks (length l.steps - l.done)

use Rattle.std.proofs.Common.{◌≡◌, replicate}
use Rattle.sweeps.specs.declared.kept.Slot.TheVariants.{Due}
use Rattle.sweeps.proofs.shrinking.due_slots.Given as goal

abbrev pub invariant-loop-at : goal.invariant-loop-at
invariant-loop-at g l = l.slots.items ≡ replicate l.at Due

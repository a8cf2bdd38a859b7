use Rattle.std.proofs.Common.{◌≡◌, replicate}
use Rattle.sweeps.specs.declared.kept.Slot.TheVariants.{Idle}
use Rattle.sweeps.proofs.growing.idle_slots.Given as goal

abbrev pub invariant-loop-at : goal.invariant-loop-at
invariant-loop-at g l = l.slots.items ≡ replicate l.at Idle

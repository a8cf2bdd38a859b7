use Rattle.std.proofs.Common.{◌≡◌, ◌∷◌}
use Rattle.std.specs.Prelude.{replicate}
use Rattle.std.specs.FinSet as set
use Rattle.round_core.specs.declared.lane.Slot.TheVariants.{Empty, Filled}
use Rattle.round_core.proofs.lane.first_slots.Given as goal

abbrev pub invariant-loop : goal.invariant-loop
invariant-loop l = l.slots.items ≡ Filled 0 set.empty ∷ replicate l.counter Empty

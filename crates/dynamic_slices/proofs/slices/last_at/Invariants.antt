use Rattle.std.proofs.Common.{◌≤◌, length}
use Rattle.dynamic_slices.specs.Slices.{places_told}
use Rattle.dynamic_slices.proofs.PlaceLemmas.{NoneFrom}
use Rattle.dynamic_slices.proofs.slices.last_at.Given as goal

abbrev pub invariant-steps_left : goal.invariant-steps_left
invariant-steps_left l = record {
  within : l.left ≤ length l.steps;
  later : NoneFrom (places_told l.steps) l.at l.left;
}

abbrev pub decreases-steps_left : goal.decreases-steps_left
decreases-steps_left l = l.left

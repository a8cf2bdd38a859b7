use Rattle.dynamic_slices.proofs.PlaceLemmas.{Found}
use Rattle.dynamic_slices.proofs.slices.marked_places.Given as goal

abbrev pub invariant-loop-n : goal.invariant-loop-n
invariant-loop-n l = Found l.steps l.marks l.n l.found.items

use Rattle.std.proofs.Common.{◌≡◌, drop}
use Rattle.cell_map.specs.Lists.{same_lists}
use Rattle.rounds.specs.Same.{same_cuts}
use Rattle.rounds.proofs.same.are_same.Given as goal

abbrev pub invariant-loop-i : goal.invariant-loop-i
invariant-loop-i l = same_lists same_cuts (drop l.i l.xs) (drop l.i l.ys) ≡ same_lists same_cuts l.xs l.ys

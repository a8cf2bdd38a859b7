use Rattle.std.proofs.Common.{◌≡◌, drop}
use Rattle.cell_map.specs.Lists.{same_lists}
use Rattle.cell_map.proofs.same.are_same.Given as goal

abbrev pub invariant-loop-i : goal.invariant-loop-i
invariant-loop-i g l = same_lists g.T.Same.same (drop l.i l.xs) (drop l.i l.ys) ≡ same_lists g.T.Same.same l.xs l.ys

use Rattle.std.proofs.Common.{◌≡◌, drop}
use Rattle.vset.specs.Operations.{same_parts}
use Rattle.vset.proofs.joins.are_same.Given as goal

abbrev pub invariant-loop-i : goal.invariant-loop-i
invariant-loop-i l = same_parts (drop l.i l.xs) (drop l.i l.ys) ≡ same_parts l.xs l.ys

use Rattle.std.proofs.Common.{◌≡◌, ◌++◌, take, drop}
use Rattle.strided.specs.Interval.{Interval}
use Rattle.vset.specs.declared.part.Both.{Both}
use Rattle.vset.specs.Operations.{part, with_part}
use Rattle.vset.proofs.part.place.Given as goal

abbrev pub invariant-loop-i : goal.invariant-loop-i
invariant-loop-i l = (both : Both) (si : Interval) → with_part both (part l.region si) l.ps ≡ take l.i l.ps ++ with_part both (part l.region si) (drop l.i l.ps)

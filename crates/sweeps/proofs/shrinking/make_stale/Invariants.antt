use Rattle.std.proofs.Common.{◌≡◌, ◌++◌, map, take, drop}
use Rattle.sweeps.specs.Kept.{made_stale}
use Rattle.sweeps.proofs.shrinking.make_stale.Given as goal

abbrev pub invariant-loop-at : goal.invariant-loop-at
invariant-loop-at g l = l.kept.items ≡ map made_stale (take l.at l.initial.kept.items) ++ drop l.at l.initial.kept.items

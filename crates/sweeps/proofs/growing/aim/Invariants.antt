use Rattle.std.proofs.Common.{◌≡◌, ◌++◌, map, take, drop}
use Rattle.sweeps.specs.Kept.{aimed, place_in}
use Rattle.sweeps.proofs.growing.aim.Given as goal

abbrev pub invariant-loop-at : goal.invariant-loop-at
invariant-loop-at g l =
    l.kept.items ≡ map (aimed (g.D.Domain.meaning l.domain) (map place_in l.initial.kept.items)) (take l.at l.initial.kept.items) ++ drop l.at l.initial.kept.items

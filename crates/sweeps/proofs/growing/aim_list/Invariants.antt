use Rattle.std.proofs.Common.{◌≡◌, ◌++◌, map, take, drop}
use Rattle.sweeps.specs.Kept.{aimed_at, place_in}
use Rattle.sweeps.proofs.growing.aim_list.Given as goal

abbrev pub invariant-loop-at : goal.invariant-loop-at
invariant-loop-at g l =
    l.arrivals.items ≡ map (aimed_at (g.D.Domain.meaning l.domain) (map place_in l.kept)) (take l.at l.initial.arrivals.items) ++ drop l.at l.initial.arrivals.items

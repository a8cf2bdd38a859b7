use Rattle.std.proofs.Common.{◌≡◌, ◌∷◌, map, take}
use Rattle.std.specs.List.{fold}
use Rattle.sweeps.specs.Kept.{touch_at}
use Rattle.sweeps.proofs.growing.touch_around.Given as goal

abbrev pub invariant-loop-arrival : goal.invariant-loop-arrival
invariant-loop-arrival g l =
    l.slots ≡ fold (touch_at (g.D.Domain.meaning l.domain) l.kept) l.fn.slots (l.k.row.place ∷ map (λ a. a.place) (take l.arrival-index l.k.arrivals))

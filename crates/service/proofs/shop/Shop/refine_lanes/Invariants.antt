use Rattle.round_slots.specs.Seats.{Place}
use Rattle.rounds.specs.declared.numbered.RoundTag.{RoundTag}
use Rattle.service.specs.Refines.{Refined}
use Rattle.service.specs.Seats.{IsReady}
use Rattle.service.proofs.shop.Shop.refine_lanes.Given as goal

abbrev pub invariant-loop-lane : goal.invariant-loop-lane
invariant-loop-lane g l =
    IsReady l.self l.seat.place l.seat.pinned
    × ((entry : Place RoundTag) → Refined l.self entry l.fn.seat.place l.fn.refining → Refined l.self entry l.seat.place l.refining)

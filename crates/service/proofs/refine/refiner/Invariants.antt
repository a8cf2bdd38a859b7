use Rattle.service.specs.Refines.{Refined}
use Rattle.service.specs.Seats.{IsReady}
use Rattle.service.proofs.refine.refiner.Given as goal

abbrev pub invariant-loop : goal.invariant-loop
invariant-loop g l = IsReady l.shop l.seat.place l.seat.pinned × Refined l.shop l.fn.seat.place l.seat.place l.refining

use Rattle.round_slots.proofs.ViewLaws.{pop_ready}
use Rattle.round_slots.proofs.tests.last_seat.Goals as goal

pub returns-clause-rest : goal.returns-clause-rest
returns-clause-rest c = (pop_ready (λ s. s.place) (λ s. s.pinned) _ _ _ c.args.seats.now.items c.pop.new.self.items c.pop.result c.pop.ensures.items c.requires).0

pub returns-clause-seat : goal.returns-clause-seat
returns-clause-seat c = (pop_ready (λ s. s.place) (λ s. s.pinned) _ _ _ c.args.seats.now.items c.pop.new.self.items c.pop.result c.pop.ensures.items c.requires).1

use Rattle.std.proofs.Common.{◌≡◌, List, []}
use Rattle.round_core.specs.declared.word.Word.{Word}
use Rattle.service.specs.Seats.{IsReady}
use Rattle.service.specs.Steps.{Grows}
use Rattle.service.proofs.session.Session.settle.Given as goal

abbrev pub invariant-loop : goal.invariant-loop
invariant-loop g l =
    IsReady l.shop l.self.seat.place l.self.seat.pinned
    × ((l.self.number ≡ l.fn.self.number) × (l.self.lane ≡ l.fn.self.lane))
    × ((words : List Word) × Grows l.fn.self.seat.place l.self.seat.place l.lane words [])

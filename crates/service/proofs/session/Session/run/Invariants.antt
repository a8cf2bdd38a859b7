use Rattle.std.proofs.Common.{◌≡◌, length}
use Rattle.std.specs.Prelude.{All}
use Rattle.service.specs.Requests.{IsAskable}
use Rattle.service.specs.Seats.{HasLane, IsReady}
use Rattle.service.proofs.RunLemmas.{Completes}
use Rattle.service.proofs.session.Session.run.Given as goal

abbrev pub invariant-lines : goal.invariant-lines
invariant-lines g l =
    IsReady l.shop l.self.seat.place l.self.seat.pinned
    × HasLane l.shop l.self.lane
    × (l.self.number ≡ l.fn.self.number)
    × All (λ line. IsAskable l.shop line.1) l.rest
    × Completes l.shop l.fn.self.number l.fn.script.lines l.rest l.fn.self l.self l.text.items

abbrev pub decreases-lines : goal.decreases-lines
decreases-lines g l = length l.rest

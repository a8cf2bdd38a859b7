-- What a thread is given, and what it does. The project's own.
use Rattle.std.specs.Prelude.{ℕ, List, [], ◌∷◌, Option, Some, None, Result, Ok, Err, Vec}
use Rattle.std.specs.declared.alloc.AllocError.{AllocError}
use Rattle.std.specs.declared.alloc.Global.{Global}
use Rattle.requests.specs.declared.request.Request.{Request}
use Rattle.service.specs.declared.job.Job.{Job}
use Rattle.service.specs.declared.job.Job.TheVariants.{Asks, Refines}
use Rattle.service.specs.declared.session.Session.{Session}
use Rattle.service.specs.declared.shop.Shop.{Shop}
use Rattle.service.specs.Runs.{own_requests, AnswersAll}
use Rattle.service.specs.Seats.{HasLane, IsReady}

-- the session may ask the shop
abbrev pub IsGuest : Shop → Session → Type 0
IsGuest shop s = IsReady shop s.seat.place s.seat.pinned × HasLane shop s.lane

-- the session answered its own requests among these lines, with this text
abbrev pub Answered : Shop → List (ℕ × Request) → Session → List ℕ → Type 0
Answered shop lines s text = (new : Session) × AnswersAll shop (own_requests s.number lines) s new text

abbrev pub IsJob : Shop → Job → Type 0
IsJob shop (Asks s) = IsGuest shop s
IsJob shop (Refines seat) = IsReady shop seat.place seat.pinned

abbrev pub IsDone : Shop → List (ℕ × Request) → Job → Option (Vec ℕ Global) → Type 0
IsDone shop lines (Asks s) (Some text) = Answered shop lines s text.items
IsDone shop lines (Asks s) None = ⊥
IsDone shop lines (Refines seat) (Some text) = ⊥
IsDone shop lines (Refines seat) None = Unit {0}

-- the texts among these results, in their order
abbrev pub texts_in : List (Result (Option (Vec ℕ Global)) AllocError) → List (Vec ℕ Global)
texts_in [] = []
texts_in (Ok (Some text) ∷ results) = text ∷ texts_in results
texts_in (Ok None ∷ results) = texts_in results
texts_in (Err error ∷ results) = texts_in results

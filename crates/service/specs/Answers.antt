-- The replies of a session, by its requests. The project's own.
use Rattle.std.specs.Prelude.{◌≡◌, ℕ, Bool}
use Rattle.requests.specs.Texts.{lane_text}
use Rattle.requests.specs.declared.request.Request.{Request}
use Rattle.requests.specs.declared.request.Request.TheVariants.{Slice, Values, Warnings, Locations, Step, Lane}
use Rattle.rounds.specs.declared.round.Round.{Round}
use Rattle.service.specs.declared.session.Reply.{Reply}
use Rattle.service.specs.declared.session.Session.{Session}
use Rattle.service.specs.declared.shop.Shop.{Shop}
use Rattle.service.specs.Seats.{IsPinned, IsNoOlder}
use Rattle.service.specs.Replies.{IsSliceReply}
use Rattle.service.specs.Requests.{reading_text}
use Rattle.service.specs.Steps.{IsStepReply}

-- The session pinned a round, no older than any that it had seen or published, and shows the slice of it.
pub record Slices (shop : Shop) (old new : Session) (at : ℕ) (skip_sp : Bool) (reply : Reply) : Type 0 where
  pub same_lane : new.lane ≡ old.lane
  pub pinned : Round
  pub is_pinned : IsPinned shop old.lane old.seat.place new.seat.place pinned
  pub no_older : IsNoOlder shop old.lane old.seat.place pinned.number
  pub text_is : IsSliceReply pinned at skip_sp new.page
  pub round_is : reply.round ≡ pinned.number

-- The session pinned such a round, and shows what it holds.
pub record Reads (shop : Shop) (old new : Session) (request : Request) (reply : Reply) : Type 0 where
  pub same_lane : new.lane ≡ old.lane
  pub pinned : Round
  pub is_pinned : IsPinned shop old.lane old.seat.place new.seat.place pinned
  pub no_older : IsNoOlder shop old.lane old.seat.place pinned.number
  pub text_is : new.page ≡ reading_text pinned request
  pub round_is : reply.round ≡ pinned.number

-- The session published the next round, or its lane's round is the last, and it says which.
pub record Steps (shop : Shop) (old new : Session) (reply : Reply) : Type 0 where
  pub same_lane : new.lane ≡ old.lane
  pub text_is : IsStepReply shop old.lane old.seat.place new.seat.place reply.round new.page

-- The session asks of other rounds from now on.
pub record Moves (old new : Session) (sites : ℕ) (reply : Reply) : Type 0 where
  pub lane_is : new.lane ≡ sites
  pub same_seat : new.seat.place ≡ old.seat.place
  pub text_is : new.page ≡ lane_text sites
  pub round_is : reply.round ≡ 0

abbrev pub AnswersTo : Shop → Session → Session → Request → Reply → Type 0
AnswersTo shop old new (Slice at skip_sp) reply = Slices shop old new at skip_sp reply
AnswersTo shop old new (Values at) reply = Reads shop old new (Values at) reply
AnswersTo shop old new Warnings reply = Reads shop old new Warnings reply
AnswersTo shop old new Locations reply = Reads shop old new Locations reply
AnswersTo shop old new Step reply = Steps shop old new reply
AnswersTo shop old new (Lane sites) reply = Moves old new sites reply
AnswersTo shop old new other reply = ⊥

-- A session's replies to all of its requests. The project's own.
use Rattle.std.specs.Prelude.{◌≡◌, ℕ, ◌==◌, List, [], ◌∷◌, ◌++◌, if◌then◌else◌}
use Rattle.requests.specs.declared.request.Request.{Request}
use Rattle.service.specs.declared.session.Reply.{Reply}
use Rattle.service.specs.declared.session.Session.{Session}
use Rattle.service.specs.declared.shop.Shop.{Shop}
use Rattle.service.specs.Answers.{AnswersTo}

-- the requests of a session among the lines of a script
unfoldable pub own_requests : ℕ → List (ℕ × Request) → List Request
own_requests number [] = []
own_requests number (line ∷ lines) = if line.0 == number then line.1 ∷ own_requests number lines else own_requests number lines

-- The session answered the first request, then went on with the others; the text is that of its replies in order.
pub record AnswersFirst (shop : Shop) (old : Session) (request : Request) (text : List ℕ) (Others : Session → List ℕ → Type 0) : Type 0 where
  pub mid : Session
  pub reply : Reply
  pub rest : List ℕ
  pub answers : AnswersTo shop old mid request reply
  pub text_is : text ≡ mid.page ++ rest
  pub goes_on : Others mid rest

-- it answered them one after another, in this order, and its seat took no other steps
unfoldable pub AnswersAll : Shop → List Request → Session → Session → List ℕ → Type 0
AnswersAll shop [] old new text = (new.lane ≡ old.lane) × (new.seat.place ≡ old.seat.place) × (text ≡ [])
AnswersAll shop (request ∷ requests) old new text = AnswersFirst shop old request text (λ mid rest. AnswersAll shop requests mid new rest)

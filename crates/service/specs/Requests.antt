-- What a session may be asked. The project's own.
use Rattle.std.specs.Prelude.{ℕ, Option, Some, None, List, []}
use Rattle.requests.specs.Texts.{absent_text}
use Rattle.requests.specs.declared.request.Request.{Request}
use Rattle.requests.specs.declared.request.Request.TheVariants.{Slice, Values, Warnings, Locations, Step, Lane}
use Rattle.round_texts.specs.Readings.{reading_reply}
use Rattle.rounds.specs.declared.round.Round.{Round}
use Rattle.service.specs.declared.shop.Shop.{Shop}
use Rattle.service.specs.Seats.{HasLane}

-- what a round holds
abbrev pub IsReading : Request → Type 0
IsReading (Values at) = Unit {0}
IsReading Warnings = Unit {0}
IsReading Locations = Unit {0}
IsReading other = ⊥

-- a slice, what a round holds, a step, or another number of call sites whose rounds the shop has
abbrev pub IsAskable : Shop → Request → Type 0
IsAskable shop (Slice at skip_sp) = Unit {0}
IsAskable shop (Values at) = Unit {0}
IsAskable shop Warnings = Unit {0}
IsAskable shop Locations = Unit {0}
IsAskable shop Step = Unit {0}
IsAskable shop (Lane sites) = HasLane shop sites
IsAskable shop other = ⊥

-- the reply that the address of a request for values is absent, where the round has none for it
abbrev pub told_or_absent : Round → Request → Option (List ℕ) → List ℕ
told_or_absent r request (Some text) = text
told_or_absent r (Values at) None = absent_text at r.number r.lane
told_or_absent r other None = []

-- the reply that tells what the round holds
abbrev pub reading_text : Round → Request → List ℕ
reading_text r request = told_or_absent r request (reading_reply r request)

-- Which replies to requests tell what a round holds. The project's own.
use Rattle.std.specs.Prelude.{ℕ, List, Option, Some, None}
use Rattle.requests.specs.declared.request.Request.{Request}
use Rattle.requests.specs.declared.request.Request.TheVariants.{Values, Warnings, Locations}
use Rattle.rounds.specs.declared.round.Round.{Round}
use Rattle.round_texts.specs.Warnings.{warnings_reply}
use Rattle.round_texts.specs.Values.{values_reply}
use Rattle.round_texts.specs.Locations.{locations_reply}

-- the reply to a request for values, warnings or locations, of which the first has none where no node stands at its address
abbrev pub reading_reply : Round → Request → Option (List ℕ)
reading_reply r (Values at) = values_reply r at
reading_reply r Warnings = Some (warnings_reply r)
reading_reply r Locations = Some (locations_reply r)
reading_reply r other = None

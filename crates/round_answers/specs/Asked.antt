-- Which round is asked for. The project's own.
use Rattle.std.specs.Prelude.{◌≡◌, ℕ, ◌<◌, IsTrue, Option, Some, None}
use Rattle.image_map.specs.declared.image.Image.{Image}
use Rattle.image_map.specs.declared.region.Settings.{Settings}
use Rattle.rounds.specs.declared.round.Round.{Round}
use Rattle.rounds.specs.Rounds.{IsRound}
use Rattle.round_answers.specs.declared.asked.Choice.{Choice}
use Rattle.round_answers.specs.declared.asked.NoRound.{NoRound}
use Rattle.round_answers.specs.declared.asked.NoRound.TheVariants.{Behind, Memory}

-- the round of a number, or the last one
abbrev pub IsChosen : Option ℕ → Round → Type 0
IsChosen None r = IsTrue r.last
IsChosen (Some n) r = r.number ≡ n

-- the round of this image, with these settings, that is asked for
pub record IsAsked (image : Image) (settings : Settings) (choice : Choice) (r : Round) : Type 0 where
  pub round : IsRound image settings r
  pub lane : r.lane ≡ choice.lane
  pub chosen : IsChosen choice.round r

-- where nodes keep so many call sites, round n comes after the last: some round before it is the last
pub record IsBehindLast (image : Image) (settings : Settings) (lane n : ℕ) : Type 0 where
  pub end : Round
  pub round : IsRound image settings end
  pub same_lane : end.lane ≡ lane
  pub last : IsTrue end.last
  pub before : end.number < n

-- why there is no round: the one that is asked for comes after the last, or memory is wanting
abbrev pub IsNoRound : Image → Settings → Choice → NoRound → Type 0
IsNoRound image settings choice (Behind n) = (choice.round ≡ Some n) × IsBehindLast image settings choice.lane n
IsNoRound image settings choice Memory = Unit {0}

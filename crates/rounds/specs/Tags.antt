-- What the rounds of a store have in common, and which rounds belong to it. The project's own.
use Rattle.std.specs.Prelude.{◌≡◌, ℕ, Option, Some, None, slice_index_or}
use Rattle.rounds.specs.declared.round.Round.{Round}
use Rattle.rounds.specs.declared.numbered.RoundTag.{RoundTag}
use Rattle.rounds.specs.Rounds.{IsRound}

-- the lane of the store for rounds whose nodes keep so many call sites, where it has one
abbrev pub lane_of_sites : RoundTag → ℕ → Option ℕ
lane_of_sites tag sites = slice_index_or tag.lanes sites None

-- it is a round of the program, and its lane of the store is this one
abbrev pub BelongsTo : RoundTag → ℕ → Round → Type 0
BelongsTo tag lane r = IsRound tag.image tag.settings r × (lane_of_sites tag r.lane ≡ Some lane)

-- the lane of the store has a round of this number
abbrev pub HasNumber : RoundTag → ℕ → ℕ → Type 0
HasNumber tag lane n = (r : Round) × BelongsTo tag lane r × (r.number ≡ n)

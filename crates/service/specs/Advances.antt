-- What came of trying to publish the round behind a pinned one. The project's own.
use Rattle.std.specs.Prelude.{◌≡◌, ℕ, ◌+◌, IsTrue}
use Rattle.round_slots.specs.Seats.{Place}
use Rattle.rounds.specs.declared.round.Round.{Round}
use Rattle.rounds.specs.declared.numbered.RoundTag.{RoundTag}
use Rattle.service.specs.declared.advance.Advance.{Advance}
use Rattle.service.specs.declared.advance.Advance.TheVariants.{Published, Settled, Refused}
use Rattle.service.specs.Steps.{Publishes, LooksOn}

abbrev pub Advances : Place RoundTag → Place RoundTag → ℕ → Round → Advance → Type 0
Advances old new lane r (Published n) = (n ≡ r.number + 1) × Publishes old new lane n
Advances old new lane r (Settled n) = (n ≡ r.number) × IsTrue r.last × (new ≡ old)
Advances old new lane r Refused = LooksOn old new lane

-- How a step ends. The project's own.
use Rattle.std.specs.Prelude.{ℕ}
use Rattle.round_slots.specs.Seats.{Place}
use Rattle.rounds.specs.declared.numbered.RoundTag.{RoundTag}
use Rattle.service.specs.declared.shop.Shop.{Shop}
use Rattle.service.specs.declared.step.End.{End}
use Rattle.service.specs.declared.step.End.TheVariants as end
use Rattle.service.specs.Steps.{Stepped, Settled}

abbrev pub EndsWith : Shop → ℕ → Place RoundTag → Place RoundTag → End → Type 0
EndsWith shop sites old new (end.Published number) = Stepped shop sites old new number
EndsWith shop sites old new (end.Settled number) = Settled shop sites old new number

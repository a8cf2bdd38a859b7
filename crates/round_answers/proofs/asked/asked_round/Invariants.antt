use Rattle.std.proofs.Common.{◌≡◌, ◌≤◌, ◌-◌, ℕ, Some}
use Rattle.rounds.specs.Rounds.{IsRound}
use Rattle.round_answers.proofs.asked.asked_round.Given as goal

abbrev pub invariant-rounds : goal.invariant-rounds
invariant-rounds l = record {
  round : IsRound l.image l.settings l.round;
  lane : l.round.lane ≡ l.choice.lane;
  within : (n : ℕ) → l.choice.round ≡ Some n → l.round.number ≤ n;
}

abbrev pub decreases-rounds : goal.decreases-rounds
decreases-rounds l = l.settings.rounds - l.round.number

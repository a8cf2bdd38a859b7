-- What a search marks: the least set that holds where it begins and follows its steps. The project's own.
use Rattle.std.specs.Prelude.{ℕ}

-- the least set of numbers that holds each seed and, with m, each n to which a step goes from m
pub data Marked (Seed : ℕ → Type 0) (Step : ℕ → ℕ → Type 0) : ℕ → Type 0 where
  seed : {n : ℕ} → Seed n → Marked Seed Step n
  step : {m n : ℕ} → Step m n → Marked Seed Step m → Marked Seed Step n

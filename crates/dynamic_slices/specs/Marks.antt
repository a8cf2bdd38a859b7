-- Marks of steps. The project's own.
use Rattle.std.specs.Prelude.{◌≡◌, ◌⊎◌, ℕ, ◌<◌, Bool, List, length}
use Rattle.flow_graph.specs.Walks.{IsOn}

-- the steps of which this holds are marked besides, as far as there are marks
pub record Marks (P : ℕ → Type 0) (old new : List Bool) : Type 0 where
  pub long : length new ≡ length old
  pub kept : (n : ℕ) → IsOn old n → IsOn new n
  pub why : (n : ℕ) → IsOn new n → IsOn old n ⊎ P n
  pub has : (n : ℕ) → P n → n < length old → IsOn new n

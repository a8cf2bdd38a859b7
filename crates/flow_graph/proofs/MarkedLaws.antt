-- The law of marking, which carries every search: what is marked is reached, and what is reached is marked or still waits.
use Rattle.std.proofs.Common.{ℕ, ◌⊎◌, ⊎_elim}
use Rattle.flow_graph.specs.Marked.{Marked}
use Rattle.flow_graph.specs.Marked.Marked.{seed, step}

-- what holds of each seed, and goes along each step, holds of all that is marked
pub marked_all : (Seed : ℕ → Type 0) (Step : ℕ → ℕ → Type 0) (P : ℕ → Type 0) → ((n : ℕ) → Seed n → P n) → ((m n : ℕ) → Step m n → P m → P n) → {n : ℕ} → Marked Seed Step n → P n
marked_all Seed Step P begins goes (seed {n} s) = begins n s
marked_all Seed Step P begins goes (step {m} {n} s before) = goes m n s (marked_all Seed Step P begins goes before)

-- a search under way: what it has marked, and which of that still waits for its steps to be followed
pub record Searches (Seed : ℕ → Type 0) (Step : ℕ → ℕ → Type 0) (IsMarked : ℕ → Type 0) (Waits : ℕ → Type 0) : Type 0 where
  pub begins : (n : ℕ) → Seed n → IsMarked n
  pub reached : (n : ℕ) → IsMarked n → Marked Seed Step n
  pub followed : (m n : ℕ) → Step m n → IsMarked m → IsMarked n ⊎ Waits m

-- where nothing waits, all that is reached is marked
pub all_marked : {Seed : ℕ → Type 0} {Step : ℕ → ℕ → Type 0} {IsMarked : ℕ → Type 0} {Waits : ℕ → Type 0} → Searches Seed Step IsMarked Waits → ((n : ℕ) → ¬ Waits n) → {n : ℕ} → Marked Seed Step n → IsMarked n
all_marked {Seed} {Step} {IsMarked} searches none marked =
    marked_all Seed Step IsMarked searches.begins (λ m n s before. ⊎_elim (λ is. is) (λ waits. absurd (none m waits)) (searches.followed m n s before)) marked

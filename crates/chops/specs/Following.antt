-- A search that goes along arrows: what it adds. The project's own.
use Rattle.std.specs.Prelude.{◌≡◌, ℕ, ◌<◌, List, Contains, length, slice_index_or}

-- n stands behind m in one of these pairs
abbrev pub IsAfter : List (ℕ × ℕ) → ℕ → ℕ → Type 0
IsAfter pairs m n = Contains pairs (m, n)

-- the second number of the pair at place k is in the new list where the first is in the old one
abbrev pub FollowsOn : List (ℕ × ℕ) → ℕ → List ℕ → List ℕ → Type 0
FollowsOn pairs k old new = Contains old (slice_index_or pairs k (0, 0)).0 → Contains new (slice_index_or pairs k (0, 0)).1

-- where a step goes from a node of the old list to one of the first i nodes, that is in the new list
abbrev pub FollowsBelow : (ℕ → ℕ → Type 0) → ℕ → List ℕ → List ℕ → Type 0
FollowsBelow Step i old new = (m n : ℕ) → n < i → Step m n → Contains old m → Contains new n

-- each of these numbers is its place
abbrev pub AreNumbers : List ℕ → Type 0
AreNumbers xs = (k d : ℕ) → k < length xs → slice_index_or xs k d ≡ k

-- Pairs of nodes as rows of marks, and as a rising list. The project's own.
use Rattle.std.specs.Prelude.{◌≡◌, ◌⊎◌, ◌↔◌, ℕ, ◌+◌, ◌<◌, ◌≢◌, Bool, List, [], length, All, Contains, slice_index, slice_index_or}
use Rattle.flow_graph.specs.declared.graph.FlowNode.{FlowNode}
use Rattle.flow_graph.specs.FlowGraph.{MayUse, MayDefine, MustDefine, IsStep, esp_place}
use Rattle.flow_graph.specs.Rows.{IsBit, HasBit, SomeHasBit}
use Rattle.flow_graph.specs.Walks.{IsOn}
use Rattle.dep_graph.specs.DepGraph.{Arrives, DataEdge}

-- the mark of the pair m, n is set
abbrev pub HasPair : List (List Bool) → ℕ → ℕ → Type 0
HasPair pairs m n = IsOn (slice_index_or pairs m []) n

-- there are so many rows of so many marks
pub record IsSquare (count : ℕ) (pairs : List (List Bool)) : Type 0 where
  pub rows : length pairs ≡ count
  pub marks : (m : ℕ) → m < count → length (slice_index_or pairs m []) ≡ count

-- what m may define of this place arrives at one of these nodes, n
pub record ArrivesAt (g : List FlowNode) (place : ℕ) (targets : List ℕ) (m n : ℕ) : Type 0 where
  pub defines : MayDefine g place m
  pub target : Contains targets n
  pub arrives : Arrives g place m n

-- the new pairs are the old ones and those of which this holds
abbrev pub Adds : (ℕ → ℕ → Type 0) → List (List Bool) → List (List Bool) → Type 0
Adds P old new = (m n : ℕ) → HasPair new m n ↔ (HasPair old m n ⊎ P m n)

-- pair a comes before pair b, by their first numbers and then by their second
abbrev pub IsBefore : ℕ × ℕ → ℕ × ℕ → Type 0
IsBefore a b = (a.0 < b.0) ⊎ ((a.0 ≡ b.0) × (a.1 < b.1))

-- each pair comes before the next
abbrev pub IsRising : List (ℕ × ℕ) → Type 0
IsRising pairs = (k : ℕ) → k + 1 < length pairs → IsBefore (slice_index_or pairs k (0, 0)) (slice_index_or pairs (k + 1) (0, 0))

-- an edge goes from m to n by one of these places
abbrev pub EdgeBy : List FlowNode → List ℕ → ℕ → ℕ → Type 0
EdgeBy g places m n = (place : ℕ) × Contains places place × DataEdge g place m n

-- an edge goes from m to n by a place other than ESP
abbrev pub OrdinaryEdge : List FlowNode → ℕ → ℕ → Type 0
OrdinaryEdge g m n = (place : ℕ) × (place ≢ esp_place) × DataEdge g place m n

-- these pairs are those of which this holds, rising, each once
pub record ListsPairs (P : ℕ → ℕ → Type 0) (pairs : List (ℕ × ℕ)) : Type 0 where
  pub rising : IsRising pairs
  pub listed : (m n : ℕ) → Contains pairs (m, n) ↔ P m n

-- n is one of the first i of these nodes, the k-th, and bit k of the word is set
abbrev pub IsHit : ℕ → List ℕ → ℕ → ℕ → Type 0
IsHit word targets i n = (k : ℕ) × (k < i) × (slice_index targets k ≡ n) × IsBit word k

-- each node keeps all bits unless it must define this place
abbrev pub KeepsUnless : List FlowNode → ℕ → List ℕ → Type 0
KeepsUnless g place kept = (m k : ℕ) → m < length g → k < 64 → HasBit kept m k ↔ (¬ MustDefine g place m)

-- a node may define this place, and a successor of it has the bit of n, one of these nodes
abbrev pub IsRowHit : FlowNode → List ℕ → ℕ → List ℕ → ℕ → Type 0
IsRowHit node rows place targets n = Contains node.may_def place × ((k : ℕ) × (k < length targets) × (slice_index targets k ≡ n) × SomeHasBit rows node.next k)

-- the pairs that come before m, n of which this holds, rising, each once
pub record Listing (P : ℕ → ℕ → Type 0) (xs : List (ℕ × ℕ)) (m n : ℕ) : Type 0 where
  pub rising : IsRising xs
  pub below : All (λ x. IsBefore x (m, n)) xs
  pub listed : (a b : ℕ) → Contains xs (a, b) ↔ (IsBefore (a, b) (m, n) × P a b)

-- a listing up to row m goes on through its marks
abbrev pub AddsRow : List (ℕ × ℕ) → List (ℕ × ℕ) → ℕ → List Bool → Type 0
AddsRow old new m row = (pairs : List (List Bool)) → slice_index_or pairs m [] ≡ row → Listing (HasPair pairs) old m 0 → Listing (HasPair pairs) new m (length row)

-- m may define this place, and a successor of it has the bit of n, one of these nodes
abbrev pub RowHit : List FlowNode → List ℕ → ℕ → List ℕ → ℕ → ℕ → Type 0
RowHit g rows place targets m n = MayDefine g place m × ((k : ℕ) × (k < length targets) × (slice_index targets k ≡ n) × ((next : ℕ) × IsStep g m next × HasBit rows next k))

-- the data edges of a graph, in two lists
pub record HasEdges (g : List FlowNode) (ordinary sp : List (ℕ × ℕ)) : Type 0 where
  pub ordinary_edges : ListsPairs (OrdinaryEdge g) ordinary
  pub sp_edges : ListsPairs (DataEdge g esp_place) sp

-- some node may use this place, which isn't ESP's
abbrev pub IsUsed : List FlowNode → ℕ → Type 0
IsUsed g place = (place ≢ 4) × ((n : ℕ) × MayUse g place n)

-- node m may define this place, which arrives at node n
pub record ReachesFrom (g : List FlowNode) (place m n : ℕ) : Type 0 where
  pub defines : MayDefine g place m
  pub within : n < length g
  pub arrives : Arrives g place m n

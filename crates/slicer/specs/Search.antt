-- A search that goes back over arrows: what it has met, in order, and how that grows. The project's own.
use Rattle.std.specs.Prelude.{◌≡◌, ◌≢◌, ◌⊎◌, ◌↔◌, ℕ, ◌+◌, ◌<◌, ◌≤◌, ◌^◌, Bool, List, ◌++◌, length, take, Contains, slice_index, slice_index_or}
use Rattle.flow_graph.specs.Marked.{Marked}
use Rattle.flow_graph.specs.declared.graph.FlowNode.{FlowNode}
use Rattle.flow_graph.specs.Walks.{IsOn, unmarked}
use Rattle.control_walks.specs.ControlWalks.{Controls}

-- For how many nodes there is room, and the nodes met so far, each once.
pub record Met : Type 0 where
  pub size : ℕ
  pub nodes : List ℕ

-- the first `count` of this list are the nodes that are marked, and the rest of it has room for those that aren't
pub record IsQueue (marks : List Bool) (list : List ℕ) (count : ℕ) : Type 0 where
  pub room : length list ≡ length marks
  pub left : unmarked marks + count ≡ length marks
  pub marked : (n : ℕ) → IsOn marks n ↔ Contains (take count list) n

-- the new list goes on from the old one, with all those numbers of which this holds, and no others
pub record Adds (P : ℕ → Type 0) (old new : List ℕ) : Type 0 where
  pub rest : List ℕ
  pub goes_on : new ≡ old ++ rest
  pub why : (n : ℕ) → Contains new n → Contains old n ⊎ P n
  pub has : (n : ℕ) → P n → Contains new n

-- the new list goes on from the old one, and what it has is reached from that by steps
pub record Grows (Step : ℕ → ℕ → Type 0) (old new : List ℕ) : Type 0 where
  pub rest : List ℕ
  pub goes_on : new ≡ old ++ rest
  pub reached : (n : ℕ) → Contains new n → Marked (Contains old) Step n

-- m stands before n in one of these pairs
abbrev pub IsBefore : List (ℕ × ℕ) → ℕ → ℕ → Type 0
IsBefore pairs n m = Contains pairs (m, n)

-- the first number of the pair at place k is in the new list where the second is in the old one
abbrev pub FollowsAt : List (ℕ × ℕ) → ℕ → List ℕ → List ℕ → Type 0
FollowsAt pairs k old new = Contains old (slice_index_or pairs k (0, 0)).1 → Contains new (slice_index_or pairs k (0, 0)).0

-- where a step goes from a node of the old list, it goes to one of the new list
abbrev pub Follows : (ℕ → ℕ → Type 0) → List ℕ → List ℕ → Type 0
Follows Step old new = (n m : ℕ) → Step n m → Contains old n → Contains new m

-- each branch that controls the node at place k of the list is in the list
abbrev pub IsControlledAt : List FlowNode → List ℕ → ℕ → Type 0
IsControlledAt g nodes k = (b : ℕ) → Controls g b (slice_index nodes k) → Contains nodes b

-- that holds of the first i places
abbrev pub IsControlledBelow : List FlowNode → List ℕ → ℕ → Type 0
IsControlledBelow g nodes i = (k : ℕ) → k < i → IsControlledAt g nodes k

-- some of the first i numbers is this one
abbrev pub IsAmong : List ℕ → ℕ → ℕ → Type 0
IsAmong items i a = (j : ℕ) × (j < i) × (slice_index items j ≡ a)

-- the number at this place isn't the one before it
abbrev pub IsFirst : List ℕ → ℕ → Type 0
IsFirst items place = (k : ℕ) → k + 1 ≡ place → slice_index items k ≢ slice_index items place

-- For how many nodes there is room, and the addresses last listed.
pub record Listed : Type 0 where
  pub size : ℕ
  pub addresses : List ℕ

-- Room for searches in graphs with up to this many nodes, and a list that is a part of its room.
pub record HasRoom (size walks found list listed : ℕ) : Type 0 where
  pub walks_room : walks ≡ size
  pub found_room : found ≡ size
  pub list_room : list ≡ size
  pub part : listed ≤ size
  pub numbers : size < 2 ^ 32

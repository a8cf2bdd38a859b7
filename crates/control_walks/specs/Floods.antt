-- What a flood leaves behind: for each node, which of the flooded nodes it reaches, and round which of them an end is reached.
-- The project's own.
use Rattle.std.specs.Prelude.{◌≡◌, ◌≢◌, ◌↔◌, ℕ, ◌<◌, ◌≤◌, ◌^◌, List, length, slice_index}
use Rattle.flow_graph.specs.declared.graph.FlowNode.{FlowNode}
use Rattle.flow_graph.specs.FlowGraph.{IsAt, IsBranch, IsStep, Reaches, Escapes}
use Rattle.flow_graph.specs.Rows.{HasBit, IsBit}

-- What a scratch holds: for how many nodes it was made, the rows of the last flood, and the branches last listed.
pub record Flooded : Type 0 where
  pub size : ℕ
  pub reaching : List ℕ
  pub escaping : List ℕ
  pub branches : List ℕ

-- the k-th of these nodes, and its address
pub record IsTarget (g : List FlowNode) (targets : List ℕ) (k at : ℕ) : Type 0 where
  pub among : k < length targets
  pub stands : IsAt g at (slice_index targets k)

-- the rows in which node m reaches the k-th of these nodes where bit k is set
abbrev pub ShowsReaches : List FlowNode → List ℕ → List ℕ → Type 0
ShowsReaches g targets rows = (m k : ℕ) → HasBit rows m k ↔ ((k < length targets) × Reaches g m (slice_index targets k))

-- the rows in which an end is reached from m round the address of the k-th of these nodes where bit k is set
abbrev pub ShowsEscapes : List FlowNode → List ℕ → List ℕ → Type 0
ShowsEscapes g targets rows = (m k at : ℕ) → IsTarget g targets k at → HasBit rows m k ↔ Escapes g at m

-- both rows of a flood of these nodes
pub record Floods (g : List FlowNode) (targets : List ℕ) (flooded : Flooded) : Type 0 where
  pub reaches : ShowsReaches g targets flooded.reaching
  pub escapes : ShowsEscapes g targets flooded.escaping

-- Nodes x and y stand at different addresses, and some bit that x has in the one row y has in the other.
pub record SplitsBy (g : List FlowNode) (reaching escaping : List ℕ) (x y : ℕ) : Type 0 where
  pub x_at : ℕ
  pub y_at : ℕ
  pub x_stands : IsAt g x_at x
  pub y_stands : IsAt g y_at y
  pub apart : x_at ≢ y_at
  pub k : ℕ
  pub reached : HasBit reaching x k
  pub escapes : HasBit escaping y k

-- From branch b control goes to two such nodes.
pub record Splits (g : List FlowNode) (reaching escaping : List ℕ) (b : ℕ) : Type 0 where
  pub branches : IsBranch g b
  pub x : ℕ
  pub y : ℕ
  pub to_x : IsStep g b x
  pub to_y : IsStep g b y
  pub by : SplitsBy g reaching escaping x y

-- the bits of a word that say which of these nodes don't stand at an address
abbrev pub ShowsApart : List FlowNode → List ℕ → ℕ → ℕ → Type 0
ShowsApart g targets at word = (k there : ℕ) → IsTarget g targets k there → IsBit word k ↔ (there ≢ at)

-- Room for the floods of graphs with up to this many nodes, and a list that is a part of its room.
pub record HasRoom (size kept escaping list listed : ℕ) : Type 0 where
  pub kept_room : kept ≡ size
  pub escaping_room : escaping ≡ size
  pub list_room : list ≡ size
  pub part : listed ≤ size
  pub numbers : size < 2 ^ 32

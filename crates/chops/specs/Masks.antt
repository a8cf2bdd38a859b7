-- Which of the nodes of a flood a branch controls, bit by bit. The project's own.
use Rattle.std.specs.Prelude.{◌≢◌, ◌↔◌, ℕ, List, Contains}
use Rattle.flow_graph.specs.declared.graph.FlowNode.{FlowNode}
use Rattle.flow_graph.specs.FlowGraph.{IsAt, IsBranch, IsStep}
use Rattle.flow_graph.specs.Rows.{HasBit, IsBit}
use Rattle.control_walks.specs.ControlWalks.{Controls}

-- x and y stand at different addresses; x has bit k in the one row, and y in the other
pub record IsShared (g : List FlowNode) (reaching escaping : List ℕ) (x y k : ℕ) : Type 0 where
  pub x_at : ℕ
  pub y_at : ℕ
  pub x_stands : IsAt g x_at x
  pub y_stands : IsAt g y_at y
  pub apart : x_at ≢ y_at
  pub reached : HasBit reaching x k
  pub escapes : HasBit escaping y k

-- from branch b control goes to two such nodes
pub record IsSplit (g : List FlowNode) (reaching escaping : List ℕ) (b k : ℕ) : Type 0 where
  pub branches : IsBranch g b
  pub x : ℕ
  pub y : ℕ
  pub to_x : IsStep g b x
  pub to_y : IsStep g b y
  pub by : IsShared g reaching escaping x y k

-- bit k of a word is set just where one of these is such for k
abbrev pub ShowsSome : (ℕ → ℕ → Type 0) → List ℕ → ℕ → Type 0
ShowsSome P xs word = (k : ℕ) → IsBit word k ↔ ((x : ℕ) × Contains xs x × P x k)

-- one of these branches controls node n
abbrev pub IsControlled : List FlowNode → List ℕ → ℕ → Type 0
IsControlled g branches n = (b : ℕ) × Contains branches b × Controls g b n

-- A branch's two ways, without the branch. The project's own.
use Rattle.std.specs.Prelude.{◌≢◌, ℕ, List, Contains}
use Rattle.flow_graph.specs.declared.graph.FlowNode.{FlowNode}
use Rattle.flow_graph.specs.FlowGraph.{IsAt, Reaches, Escapes}

-- Nodes x and y stand at different addresses, n is reached from x, and from y an end is reached round the address of n.
pub record ControlsBy (g : List FlowNode) (n x y : ℕ) : Type 0 where
  pub x_at : ℕ
  pub y_at : ℕ
  pub x_stands : IsAt g x_at x
  pub y_stands : IsAt g y_at y
  pub apart : x_at ≢ y_at
  pub reached : Reaches g x n
  pub at : ℕ
  pub stands : IsAt g at n
  pub escapes : Escapes g at y

-- x and one of these nodes are such
abbrev pub ControlsFrom : List FlowNode → ℕ → List ℕ → ℕ → Type 0
ControlsFrom g n others x = (y : ℕ) × Contains others y × ControlsBy g n x y

-- two of these nodes are such
abbrev pub ControlsAmong : List FlowNode → ℕ → List ℕ → Type 0
ControlsAmong g n nodes = (x : ℕ) × Contains nodes x × ControlsFrom g n nodes x

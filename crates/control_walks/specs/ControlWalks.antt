-- Which branches control a node of a flow graph, by walks alone. The project's own.
use Rattle.std.specs.Prelude.{◌≢◌, ℕ, List}
use Rattle.flow_graph.specs.declared.graph.FlowNode.{FlowNode}
use Rattle.flow_graph.specs.FlowGraph.{IsAt, IsBranch, IsStep, Reaches, Escapes}

-- Branch b controls node n: it has two successors x and y at different addresses; n is reached from x in no or more steps,
-- and from y an end is reached round the address of n.
pub record Controls (g : List FlowNode) (b n : ℕ) : Type 0 where
  pub branches : IsBranch g b
  pub x : ℕ
  pub y : ℕ
  pub to_x : IsStep g b x
  pub to_y : IsStep g b y
  pub x_at : ℕ
  pub y_at : ℕ
  pub x_stands : IsAt g x_at x
  pub y_stands : IsAt g y_at y
  pub apart : x_at ≢ y_at
  pub reached : Reaches g x n
  pub at : ℕ
  pub stands : IsAt g at n
  pub escapes : Escapes g at y

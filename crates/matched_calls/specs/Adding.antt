-- Lists while they are made. The project's own.
use Rattle.std.specs.Prelude.{◌≡◌, ◌⊎◌, ◌↔◌, ℕ, ◌<◌, List, length, Contains}
use Rattle.flow_graph.specs.declared.graph.FlowNode.{FlowNode}
use Rattle.flow_graph.specs.FlowGraph.{IsStep}

-- the new numbers are the old ones and those of which this holds
abbrev pub AddsItems : (ℕ → Type 0) → List ℕ → List ℕ → Type 0
AddsItems P old new = (n : ℕ) → Contains new n ↔ (Contains old n ⊎ P n)

-- there are so many nodes, and their steps are these
pub record IsGrown (Next : ℕ → ℕ → Type 0) (count : ℕ) (nodes : List FlowNode) : Type 0 where
  pub many : length nodes ≡ count
  pub steps : (m n : ℕ) → IsStep nodes m n ↔ ((m < count) × Next m n)

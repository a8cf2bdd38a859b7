-- What lists a slice. The project's own, after Weiser's slices.
use Rattle.std.specs.Prelude.{ℕ, Bool, List, Contains}
use Rattle.flow_graph.specs.declared.graph.FlowNode.{FlowNode}
use Rattle.flow_graph.specs.FlowGraph.{IsAt}
use Rattle.slicer.specs.Slicer.{FlowEdge, Arrow, InSlice}

-- by its own data edges or by control an arrow of the graph goes from m to n; with skip_sp not by ESP alone
abbrev pub FlowArrow : List FlowNode → Bool → ℕ → ℕ → Type 0
FlowArrow g skip_sp = Arrow (FlowEdge g skip_sp) g

-- the addresses of the slice's nodes are among these
abbrev pub ListsSlice : List FlowNode → Bool → ℕ → List ℕ → Type 0
ListsSlice g skip_sp at addresses = (a n : ℕ) → IsAt g a n → InSlice (FlowEdge g skip_sp) g at n → Contains addresses a

-- Forward slices and chops of a flow graph: what a node may influence, and what lies between two. The project's own, after Weiser's
-- slices and Jackson and Rollins's chops.
use Rattle.std.specs.Prelude.{◌↔◌, ℕ, List, Contains}
use Rattle.std.specs.List.Sorted.{IsStrictlyIncreasing}
use Rattle.flow_graph.specs.declared.graph.FlowNode.{FlowNode}
use Rattle.flow_graph.specs.FlowGraph.{IsAt}
use Rattle.flow_graph.specs.Marked.{Marked}
use Rattle.slicer.specs.Slicer.{Arrow, InSlice}

-- the least set of nodes that holds each node at an address and, with a node, each to which an arrow goes from it
abbrev pub InForward : (ℕ → ℕ → Type 0) → List FlowNode → ℕ → ℕ → Type 0
InForward Edge g at n = Marked (IsAt g at) (Arrow Edge g) n

-- a node that may be influenced from one address, and on which another depends
abbrev pub InChop : (ℕ → ℕ → Type 0) → List FlowNode → ℕ → ℕ → ℕ → Type 0
InChop Edge g from to n = InForward Edge g from n × InSlice Edge g to n

-- these are the addresses of the nodes of which this holds, rising, each once
pub record AreAddresses (g : List FlowNode) (P : ℕ → Type 0) (addresses : List ℕ) : Type 0 where
  pub rising : IsStrictlyIncreasing addresses
  pub listed : (a : ℕ) → Contains addresses a ↔ ((n : ℕ) × IsAt g a n × P n)

abbrev pub IsForwardSlice : (ℕ → ℕ → Type 0) → List FlowNode → ℕ → List ℕ → Type 0
IsForwardSlice Edge g at addresses = AreAddresses g (InForward Edge g at) addresses

abbrev pub IsChop : (ℕ → ℕ → Type 0) → List FlowNode → ℕ → ℕ → List ℕ → Type 0
IsChop Edge g from to addresses = AreAddresses g (InChop Edge g from to) addresses

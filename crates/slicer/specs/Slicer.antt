-- The backward slice of a flow graph: what a criterion may depend on. The project's own, after Weiser's slices.
use Rattle.std.specs.Prelude.{◌≢◌, ◌⊎◌, ◌↔◌, ℕ, ◌<◌, Bool, List, length, All, Contains, IsTrue}
use Rattle.std.specs.List.Sorted.{IsStrictlyIncreasing}
use Rattle.flow_graph.specs.declared.graph.FlowNode.{FlowNode}
use Rattle.flow_graph.specs.FlowGraph.{IsAt, esp_place}
use Rattle.flow_graph.specs.Marked.{Marked}
use Rattle.dep_graph.specs.DepGraph.{DataEdge}
use Rattle.control_walks.specs.ControlWalks.{Controls}

-- A data edge of the graph goes from m to n. With skip_sp an edge that comes by ESP alone is left out.
abbrev pub FlowEdge : List FlowNode → Bool → ℕ → ℕ → Type 0
FlowEdge g skip_sp m n = (place : ℕ) × (IsTrue skip_sp → place ≢ esp_place) × DataEdge g place m n

-- The pair m, n stands in one of two lists, the edges by other places and those by ESP. With skip_sp the latter are left out.
abbrev pub ListedEdge : List (ℕ × ℕ) → List (ℕ × ℕ) → Bool → ℕ → ℕ → Type 0
ListedEdge ordinary sp skip_sp m n = Contains ordinary (m, n) ⊎ ((¬ IsTrue skip_sp) × Contains sp (m, n))

-- An arrow goes from m to n: an edge goes from m to n, or m is a branch that controls n.
abbrev pub Arrow : (ℕ → ℕ → Type 0) → List FlowNode → ℕ → ℕ → Type 0
Arrow Edge g m n = Edge m n ⊎ Controls g m n

-- the least set of nodes that holds each node at the criterion's address and, with a node, each from which an arrow goes to it
abbrev pub InSlice : (ℕ → ℕ → Type 0) → List FlowNode → ℕ → ℕ → Type 0
InSlice Edge g at n = Marked (IsAt g at) (λ later earlier. Arrow Edge g earlier later) n

-- a node of the slice stands at this address
abbrev pub IsSliced : (ℕ → ℕ → Type 0) → List FlowNode → ℕ → ℕ → Type 0
IsSliced Edge g at a = (n : ℕ) × IsAt g a n × InSlice Edge g at n

-- these are the addresses of the slice's nodes, rising, each once
pub record IsSlice (Edge : ℕ → ℕ → Type 0) (g : List FlowNode) (at : ℕ) (addresses : List ℕ) : Type 0 where
  pub rising : IsStrictlyIncreasing addresses
  pub listed : (a : ℕ) → Contains addresses a ↔ IsSliced Edge g at a

-- each number of these pairs is that of a node
abbrev pub AreNodes : List FlowNode → List (ℕ × ℕ) → Type 0
AreNodes g pairs = All (λ pair. (pair.0 < length g) × (pair.1 < length g)) pairs

-- the edges of a graph, in two lists, go between its nodes
pub record HasNodes (g : List FlowNode) (ordinary sp : List (ℕ × ℕ)) : Type 0 where
  pub ordinary_edges : AreNodes g ordinary
  pub sp_edges : AreNodes g sp

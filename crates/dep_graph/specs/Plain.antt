-- Edges by ESP, or by other places. The project's own.
use Rattle.std.specs.Prelude.{◌≡◌, ◌≢◌, ℕ, Bool, true, false, List}
use Rattle.flow_graph.specs.declared.graph.FlowNode.{FlowNode}
use Rattle.flow_graph.specs.FlowGraph.{esp_place}
use Rattle.dep_graph.specs.DepGraph.{DataEdge}

-- this place is ESP's, or it isn't
abbrev pub IsKind : Bool → ℕ → Type 0
IsKind true place = place ≡ esp_place
IsKind false place = place ≢ esp_place

-- an edge goes from m to n by ESP, or by another place
abbrev pub KindEdge : List FlowNode → Bool → ℕ → ℕ → Type 0
KindEdge g is_sp m n = (place : ℕ) × IsKind is_sp place × DataEdge g place m n

-- Slices over edges and control that are handed in. The project's own.
use Rattle.std.specs.Prelude.{◌≢◌, ◌⊎◌, ◌↔◌, ℕ, List, Contains}
use Rattle.std.specs.declared.result.Result.{Result}
use Rattle.std.specs.declared.result.Result.TheVariants.{Ok, Err}
use Rattle.flow_graph.specs.declared.graph.FlowNode.{FlowNode}
use Rattle.flow_graph.specs.FlowGraph.{IsAt, esp_place}
use Rattle.flow_graph.specs.Marked.{Marked}
use Rattle.dep_graph.specs.Edges.{ListsPairs}
use Rattle.slicer.specs.Slicer.{AreNodes}
use Rattle.chops.specs.Answers.{IsPresent}
use Rattle.matched_calls.specs.declared.kinds.StepKinds.{StepKinds}
use Rattle.matched_calls.specs.declared.slice.MatchedError.{MatchedError}
use Rattle.matched_calls.specs.declared.slice.MatchedError.TheVariants.{Absent, Memory}
use Rattle.matched_calls.specs.Matched.{MatchedEdge, MatchedControl}

-- an edge goes from m to n by a place other than ESP
abbrev pub OrdinaryMatch : List FlowNode → StepKinds → ℕ → ℕ → Type 0
OrdinaryMatch g kinds m n = (place : ℕ) × (place ≢ esp_place) × MatchedEdge g kinds place m n

-- the matched edges of a graph, in two lists, and its matched control
pub record HasMatches (g : List FlowNode) (kinds : StepKinds) (ordinary sp control : List (ℕ × ℕ)) : Type 0 where
  pub ordinary_edges : ListsPairs (OrdinaryMatch g kinds) ordinary
  pub sp_edges : ListsPairs (MatchedEdge g kinds esp_place) sp
  pub controls : (b n : ℕ) → Contains control (b, n) ↔ MatchedControl g kinds b n

-- the least set of nodes that holds each node at the criterion's address and, with a node, each from which an edge or control goes to it
abbrev pub InSliceOver : (ℕ → ℕ → Type 0) → (ℕ → ℕ → Type 0) → List FlowNode → ℕ → ℕ → Type 0
InSliceOver Edge Control g at n = Marked (IsAt g at) (λ later earlier. Edge earlier later ⊎ Control earlier later) n

-- edges and control go back from n to m
abbrev pub IsBefore : (ℕ → ℕ → Type 0) → List (ℕ × ℕ) → ℕ → ℕ → Type 0
IsBefore Edge control n m = Edge m n ⊎ Contains control (m, n)

-- each number of these pairs is that of a node
pub record HasPairs (g : List FlowNode) (ordinary sp control : List (ℕ × ℕ)) : Type 0 where
  pub ordinary_edges : AreNodes g ordinary
  pub sp_edges : AreNodes g sp
  pub controls : AreNodes g control

-- Absent exactly where no node stands at the address; want of memory may come of any graph
abbrev pub MatchedAnswer : {A : Type 0} → List FlowNode → ℕ → Result A MatchedError → Type 0
MatchedAnswer g at (Err Absent) = ¬ IsPresent g at
MatchedAnswer g at (Err Memory) = IsPresent g at
MatchedAnswer g at (Ok list) = IsPresent g at

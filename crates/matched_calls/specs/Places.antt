-- Words that say which places nodes keep. The project's own.
use Rattle.std.specs.Prelude.{◌≡◌, ◌↔◌, ℕ, ◌+◌, ◌<◌, List, length, Contains, slice_index}
use Rattle.flow_graph.specs.declared.graph.FlowNode.{FlowNode}
use Rattle.flow_graph.specs.FlowGraph.{MustDefine}
use Rattle.flow_graph.specs.Rows.{HasBit}
use Rattle.matched_calls.specs.declared.kinds.StepKinds.{StepKinds}
use Rattle.matched_calls.specs.Matched.{MatchedEdge}
use Rattle.matched_calls.specs.Summaries.{IsSummary}

-- a node has the bit of each of these places that it needn't define
abbrev pub KeepsPlaces : List FlowNode → List ℕ → List ℕ → Type 0
KeepsPlaces g places kept = (n k : ℕ) → n < length g → k < length places → HasBit kept n k ↔ (¬ MustDefine g (slice_index places k) n)

-- the words say which of these places the nodes keep, and for which calls come back
pub record IsChunk (g : List FlowNode) (kinds : StepKinds) (places kept : List ℕ) : Type 0 where
  pub len : length kept ≡ length g + length kinds.after
  pub keeps : KeepsPlaces g places kept
  pub summary : IsSummary g kinds kept

-- an edge goes from m to n by one of these places
abbrev pub MatchedBy : List FlowNode → StepKinds → List ℕ → ℕ → ℕ → Type 0
MatchedBy g kinds places m n = (place : ℕ) × Contains places place × MatchedEdge g kinds place m n

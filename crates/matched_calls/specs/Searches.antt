-- Pairs of nodes between which a matched walk goes, by rows of bits. The project's own.
use Rattle.std.specs.Prelude.{◌≡◌, ◌↔◌, ℕ, ◌+◌, ◌<◌, Bool, List, length, Contains, slice_index}
use Rattle.flow_graph.specs.declared.graph.FlowNode.{FlowNode}
use Rattle.flow_graph.specs.FlowGraph.{IsStep}
use Rattle.flow_graph.specs.Rows.{HasBit, SomeHasBit}
use Rattle.flow_graph.specs.Walks.{IsOn}
use Rattle.matched_calls.specs.declared.kinds.StepKinds.{StepKinds}
use Rattle.matched_calls.specs.Matched.{Matches}
use Rattle.matched_calls.specs.Summaries.{KeepsBit, IsSummary}

-- the words have all 64 bits alike, and those behind the nodes' say just which calls come back
pub record IsWide (g : List FlowNode) (kinds : StepKinds) (kept : List ℕ) : Type 0 where
  pub len : length kept ≡ length g + length kinds.after
  pub even : (n k : ℕ) → k < 64 → HasBit kept n k ↔ HasBit kept n 0
  pub summary : IsSummary g kinds kept

-- one of these successors has the bit of n, one of these nodes
abbrev pub IsHit : List ℕ → List ℕ → List ℕ → ℕ → Type 0
IsHit nexts rows targets n = (k : ℕ) × (k < length targets) × (slice_index targets k ≡ n) × SomeHasBit rows nexts k

-- m is marked, and a successor of it has the bit of n, one of these nodes
abbrev pub IsHitFrom : List FlowNode → List ℕ → List Bool → List ℕ → ℕ → ℕ → Type 0
IsHitFrom graph rows sources targets m n = IsOn sources m × ((k : ℕ) × (k < length targets) × (slice_index targets k ≡ n) × ((next : ℕ) × IsStep graph m next × HasBit rows next k))

-- m is marked, n is one of these nodes, and a matched walk goes from m to n over nodes that keep their bits
pub record IsFrom (g : List FlowNode) (kinds : StepKinds) (kept : List ℕ) (sources : List Bool) (targets : List ℕ) (m n : ℕ) : Type 0 where
  pub source : IsOn sources m
  pub target : Contains targets n
  pub matches : Matches g kinds (KeepsBit kept 0) m n

-- n is a node, and some matched walk goes from m to it
abbrev pub IsWalk : List FlowNode → StepKinds → ℕ → ℕ → Type 0
IsWalk g kinds m n = (n < length g) × Matches g kinds (λ i. Unit {0}) m n

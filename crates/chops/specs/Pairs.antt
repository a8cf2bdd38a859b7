-- Lists of pairs of nodes, while they grow. The project's own.
use Rattle.std.specs.Prelude.{◌≡◌, ◌⊎◌, ◌↔◌, ℕ, ◌<◌, List, Contains, length, slice_index}
use Rattle.flow_graph.specs.declared.graph.FlowNode.{FlowNode}
use Rattle.flow_graph.specs.Rows.{IsBit}
use Rattle.control_walks.specs.ControlWalks.{Controls}
use Rattle.chops.specs.Masks.{IsSplit}

-- the new pairs are the old ones and those of which this holds
abbrev pub AddsPairs : (ℕ → ℕ → Type 0) → List (ℕ × ℕ) → List (ℕ × ℕ) → Type 0
AddsPairs P old new = (m n : ℕ) → Contains new (m, n) ↔ (Contains old (m, n) ⊎ P m n)

-- n is one of these nodes, the k-th, and bit k of the word is set
abbrev pub IsShown : ℕ → List ℕ → ℕ → Type 0
IsShown word targets n = (k : ℕ) × (k < length targets) × (slice_index targets k ≡ n) × IsBit word k

-- n is one of these nodes, the k-th, and branch b splits bit k
abbrev pub IsSplitFor : List FlowNode → List ℕ → List ℕ → List ℕ → ℕ → ℕ → Type 0
IsSplitFor g reaching escaping targets b n = (k : ℕ) × (k < length targets) × (slice_index targets k ≡ n) × IsSplit g reaching escaping b k

-- branch b controls n, which is one of these nodes
abbrev pub ControlsAny : List FlowNode → List ℕ → ℕ → ℕ → Type 0
ControlsAny g targets b n = Contains targets n × Controls g b n

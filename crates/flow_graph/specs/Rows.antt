-- Rows of bits over the nodes of a flow graph: 64 searches side by side, search k in bit k of each word. The project's own.
use Rattle.std.specs.Prelude.{◌≡◌, ◌≢◌, ℕ, ◌-◌, ◌^◌, ◌<◌, Bool, false, List, Contains, slice_index, sum_by}
use Rattle.std.specs.Int.{bit_at}
use Rattle.flow_graph.specs.declared.graph.FlowNode.{FlowNode}
use Rattle.flow_graph.specs.FlowGraph.{IsStep}
use Rattle.flow_graph.specs.Marked.{Marked}

-- bit k of this word is set
unfoldable pub IsBit : ℕ → ℕ → Type 0
IsBit word k = bit_at word k ≡ 1

-- bit k of the row of node n is set; a number past the rows has no bit
abbrev pub HasBit : List ℕ → ℕ → ℕ → Type 0
HasBit rows n k = IsBit (slice_index rows n) k

-- one of these nodes has bit k in its row
abbrev pub SomeHasBit : List ℕ → List ℕ → ℕ → Type 0
SomeHasBit rows nodes k = (n : ℕ) × Contains nodes n × HasBit rows n k

-- bit j of node n is bit k of this node, within the rows
pub record IsSetAt (count node k n j : ℕ) : Type 0 where
  pub here : n ≡ node
  pub bit : j ≡ k
  pub within : n < count

-- search k is among the first i, and begins at node n, which is within the rows
pub record BeginsAt (nodes : List ℕ) (count i n k : ℕ) : Type 0 where
  pub among : k < i
  pub at : slice_index nodes k ≡ n
  pub within : n < count

-- Bit k comes to node n: it begins there, or n keeps it and it comes to a node to which control may go from n in one step.
abbrev pub Comes : List FlowNode → List ℕ → List ℕ → ℕ → ℕ → Type 0
Comes g kept begun k n = Marked (λ m. HasBit begun m k) (λ next m. IsStep g m next × HasBit kept m k) n

-- rows on the way from those that begin to those to which bits come
pub record Grows (g : List FlowNode) (kept begun rows : List ℕ) : Type 0 where
  pub begins : (n k : ℕ) → HasBit begun n k → HasBit rows n k
  pub comes : (n k : ℕ) → HasBit rows n k → Comes g kept begun k n

-- whatever node n keeps of the bits of its successors it has
abbrev pub IsSettledAt : List FlowNode → List ℕ → List ℕ → ℕ → Type 0
IsSettledAt g kept rows n = (next k : ℕ) → IsStep g n next → HasBit kept n k → HasBit rows next k → HasBit rows n k

-- how much may still be set
unfoldable pub room : List ℕ → ℕ
room rows = sum_by (λ word. 2 ^ 64 - word) rows

-- What a step of growing does to the rows: nothing comes that shouldn't, and it says whether a word changed.
pub record GrowsBy (g : List FlowNode) (kept old new : List ℕ) (changed : Bool) : Type 0 where
  pub grows : (begun : List ℕ) → Grows g kept begun old → Grows g kept begun new
  pub stays : changed ≡ false → new ≡ old
  pub less : changed ≢ false → room new < room old

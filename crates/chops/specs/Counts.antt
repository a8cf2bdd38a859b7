-- How many arrows a path to each node needs. The project's own.
use Rattle.std.specs.Prelude.{◌≡◌, ◌≢◌, ◌⊎◌, ℕ, ◌+◌, ◌<◌, ◌≤◌, ◌==◌, Bool, false, cond, List, [], ◌∷◌, map, length, Contains, slice_index, sum_by}
use Rattle.flow_graph.specs.declared.graph.FlowNode.{FlowNode}
use Rattle.flow_graph.specs.FlowGraph.{IsAt}
use Rattle.chops.specs.Following.{IsAfter}
use Rattle.chops.specs.Paths.{start_of, ComesIn}

-- the counts at the start: none for the nodes at an address, and for each other as many as there are nodes, which is out of reach
abbrev pub first_counts : ℕ → List FlowNode → List ℕ
first_counts at g = map (λ node. cond (node.at == at) 0 (length g)) g

-- A count that is below the number of nodes is that of some path's arrows, and where a path may start it is 0.
pub record AreWays (Goes : ℕ → ℕ → Type 0) (Start : ℕ → Type 0) (counts : List ℕ) : Type 0 where
  pub starts : (n : ℕ) → n < length counts → Start n → slice_index counts n ≡ 0
  pub most : (n : ℕ) → n < length counts → slice_index counts n ≤ length counts
  pub comes : (n : ℕ) → n < length counts → slice_index counts n < length counts → ComesIn Goes Start (slice_index counts n) n

-- the arrow's target has no more than one more than its source
abbrev pub IsShort : List ℕ → ℕ × ℕ → Type 0
IsShort counts arrow = slice_index counts arrow.1 ≤ slice_index counts arrow.0 + 1

-- each of the arrows is short
abbrev pub AreShort : List (ℕ × ℕ) → List ℕ → Type 0
AreShort arrows counts = (m n : ℕ) → Contains arrows (m, n) → IsShort counts (m, n)

-- A step to lower counts: they stay ways, and it says whether one changed.
pub record Lowers (arrows : List (ℕ × ℕ)) (old new : List ℕ) (changed : Bool) : Type 0 where
  pub many : length new ≡ length old
  pub ways : (g : List FlowNode) (at : ℕ) → AreWays (IsAfter arrows) (IsAt g at) old → AreWays (IsAfter arrows) (IsAt g at) new
  pub stays : changed ≡ false → new ≡ old
  pub less : changed ≢ false → sum_by (λ count. count) new < sum_by (λ count. count) old

-- the counts are those of the fewest arrows
pub record AreFewest (Goes : ℕ → ℕ → Type 0) (Start : ℕ → Type 0) (counts : List ℕ) : Type 0 where
  pub ways : AreWays Goes Start counts
  pub short : (m n : ℕ) → Goes m n → IsShort counts (m, n)

-- from m an arrow goes to n, and m has one less
abbrev pub IsBack : List (ℕ × ℕ) → List ℕ → ℕ → ℕ → Type 0
IsBack arrows counts n m = Contains arrows (m, n) × (slice_index counts m + 1 ≡ slice_index counts n)

-- m is the least such node
abbrev pub IsLeastBack : List (ℕ × ℕ) → List ℕ → ℕ → ℕ → Type 0
IsLeastBack arrows counts n m = IsBack arrows counts n m × ((o : ℕ) → IsBack arrows counts n o → m ≤ o)

-- each of these nodes is the least of those that lead to the one before it, and the first of those that lead to n
abbrev pub Falls : List (ℕ × ℕ) → List ℕ → ℕ → List ℕ → Type 0
Falls arrows counts n [] = Unit {0}
Falls arrows counts n (m ∷ ms) = IsLeastBack arrows counts n m × Falls arrows counts m ms

-- from this node back to one that needs no arrow
pub record FallsFrom (arrows : List (ℕ × ℕ)) (counts : List ℕ) (end : ℕ) (trace : List ℕ) : Type 0 where
  pub rest : List ℕ
  pub is : trace ≡ end ∷ rest
  pub falls : Falls arrows counts end rest
  pub starts : slice_index counts (start_of end rest) ≡ 0

-- of the first i nodes that stand at an address, the least of those with the lowest count below the number of nodes
pub record IsNearest (g : List FlowNode) (at : ℕ) (counts : List ℕ) (i node count : ℕ) : Type 0 where
  pub found : ((node ≡ length g) × (count ≡ length g)) ⊎ (IsAt g at node × (slice_index counts node ≡ count) × (count < length g))
  pub early : (node ≡ length g) ⊎ (node < i)
  pub fewest : (o : ℕ) → o < i → IsAt g at o → count ≤ slice_index counts o
  pub least : (o : ℕ) → o < i → IsAt g at o → slice_index counts o ≡ count → count < length g → node ≤ o

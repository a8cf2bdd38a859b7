-- Paths of arrows. The project's own.
use Rattle.std.specs.Prelude.{◌≡◌, ◌⊎◌, ℕ, ◌<◌, ◌≤◌, List, [], ◌∷◌, length, reverse}
use Rattle.flow_graph.specs.declared.graph.FlowNode.{FlowNode}
use Rattle.flow_graph.specs.FlowGraph.{IsAt}
use Rattle.slicer.specs.Slicer.{Arrow}

-- From each of these nodes, beginning with the last, an arrow goes to the one before it, and from the first to n.
abbrev pub ComesTo : (ℕ → ℕ → Type 0) → ℕ → List ℕ → Type 0
ComesTo Goes n [] = Unit {0}
ComesTo Goes n (m ∷ ms) = Goes m n × ComesTo Goes m ms

-- the last of these nodes, or n where there is none
abbrev pub start_of : ℕ → List ℕ → ℕ
start_of n [] = n
start_of n (m ∷ ms) = start_of m ms

-- A path, read from its end: it ends at a node as End says, and starts at one as Start says.
abbrev pub IsTrace : (ℕ → ℕ → Type 0) → (ℕ → Type 0) → (ℕ → Type 0) → List ℕ → Type 0
IsTrace Goes Start End [] = ⊥
IsTrace Goes Start End (n ∷ ms) = End n × ComesTo Goes n ms × Start (start_of n ms)

-- of two lists of one length, the first has the lower number where they first differ
abbrev pub IsEarlier : List ℕ → List ℕ → Type 0
IsEarlier [] ys = ⊥
IsEarlier (x ∷ xs) [] = ⊥
IsEarlier (x ∷ xs) (y ∷ ys) = (x < y) ⊎ ((x ≡ y) × IsEarlier xs ys)

-- the shortest path, and of several the one that, read from its end, is the earliest
pub record IsShortestTrace (Goes : ℕ → ℕ → Type 0) (Start End : ℕ → Type 0) (trace : List ℕ) : Type 0 where
  pub path : IsTrace Goes Start End trace
  pub shortest : (other : List ℕ) → IsTrace Goes Start End other → length trace ≤ length other
  pub earliest : (other : List ℕ) → IsTrace Goes Start End other → length other ≡ length trace → ¬ IsEarlier other trace

-- a shortest path of arrows from a node at one address to a node at another
abbrev pub IsShortestPath : (ℕ → ℕ → Type 0) → List FlowNode → ℕ → ℕ → List ℕ → Type 0
IsShortestPath Edge g from to nodes = IsShortestTrace (Arrow Edge g) (IsAt g from) (IsAt g to) (reverse nodes)

-- a path of so many arrows comes to n
pub record ComesIn (Goes : ℕ → ℕ → Type 0) (Start : ℕ → Type 0) (count n : ℕ) : Type 0 where
  pub nodes : List ℕ
  pub many : length nodes ≡ count
  pub comes : ComesTo Goes n nodes
  pub starts : Start (start_of n nodes)

-- Each node is the least from which an arrow goes to the one before it and to which a path comes with as many arrows as are left.
abbrev pub TakesLeast : (ℕ → ℕ → Type 0) → (ℕ → Type 0) → ℕ → List ℕ → Type 0
TakesLeast Goes Start n [] = Start n
TakesLeast Goes Start n (m ∷ ms) = Goes m n × ((o : ℕ) → Goes o n → ComesIn Goes Start (length ms) o → m ≤ o) × TakesLeast Goes Start m ms

-- The last node is the least of those that are reached with the fewest arrows, and each before it is the least that serves.
pub record IsLeastTrace (Goes : ℕ → ℕ → Type 0) (Start End : ℕ → Type 0) (n : ℕ) (ms : List ℕ) : Type 0 where
  pub ends : End n
  pub fewest : (o count : ℕ) → End o → ComesIn Goes Start count o → length ms ≤ count
  pub least : (o : ℕ) → End o → ComesIn Goes Start (length ms) o → n ≤ o
  pub takes : TakesLeast Goes Start n ms

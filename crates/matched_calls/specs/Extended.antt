-- A graph with one node more for each call that may come back, between the call's node and the place after it. The project's own.
use Rattle.std.specs.Prelude.{◌≡◌, ◌⊎◌, ◌↔◌, ℕ, ◌+◌, ◌<◌, List, length, Contains, slice_get, slice_index_or, Some}
use Rattle.flow_graph.specs.declared.graph.FlowNode.{FlowNode}
use Rattle.flow_graph.specs.FlowGraph.{IsStep}
use Rattle.matched_calls.specs.declared.kinds.StepKinds.{StepKinds}
use Rattle.matched_calls.specs.declared.kinds.Phase.{Phase}
use Rattle.matched_calls.specs.declared.kinds.Phase.TheVariants.{Level, Up, Down}
use Rattle.matched_calls.specs.declared.sites.Site.{Site}
use Rattle.matched_calls.specs.declared.sites.Plan.{Plan}
use Rattle.matched_calls.specs.Matched.{HasKinds}
use Rattle.matched_calls.specs.Phases.{IsCall, IsReturn, IsFlow}

-- the call that may come back, of this number, with the place after it
abbrev pub pair_of : List (ℕ × ℕ) → ℕ → ℕ × ℕ
pair_of after j = slice_index_or after j (0, 0)

-- n is the node between call node m and a place after it
abbrev pub IsLink : ℕ → List (ℕ × ℕ) → ℕ → ℕ → Type 0
IsLink count after m n = (j : ℕ) × (j < length after) × ((pair_of after j).0 ≡ m) × (n ≡ count + j)

-- m is the node between a call and n, the place after it
abbrev pub IsArrival : ℕ → List (ℕ × ℕ) → ℕ → ℕ → Type 0
IsArrival count after m n = (j : ℕ) × (j < length after) × (m ≡ count + j) × (n ≡ (pair_of after j).1)

-- where a phase goes from a node of the graph
abbrev pub IsNext : List FlowNode → StepKinds → Phase → ℕ → ℕ → Type 0
IsNext g kinds phase m n = ((n < length g) × IsFlow g kinds phase m n) ⊎ IsLink (length g) kinds.after m n

-- the graph of a phase
pub record IsExtended (g : List FlowNode) (kinds : StepKinds) (phase : Phase) (extended : List FlowNode) : Type 0 where
  pub many : length extended ≡ length g + length kinds.after
  pub steps : (m n : ℕ) → IsStep extended m n ↔ (((m < length g) × IsNext g kinds phase m n) ⊎ IsArrival (length g) kinds.after m n)

-- the entries that a call may go to, and the nodes from which control returns to the place after it
pub record IsSite (g : List FlowNode) (kinds : StepKinds) (pair : ℕ × ℕ) (site : Site) : Type 0 where
  pub entries : (e : ℕ) → Contains site.entries e ↔ ((e < length g) × IsCall g kinds pair.0 e)
  pub exits : (x : ℕ) → Contains site.exits x ↔ ((x < length g) × IsReturn g kinds x pair.1)

-- the first i calls that may come back
pub record AreSites (g : List FlowNode) (kinds : StepKinds) (i : ℕ) (sites : List Site) : Type 0 where
  pub many : length sites ≡ i
  pub each : (j : ℕ) (site : Site) → slice_get sites j ≡ Some site → IsSite g kinds (pair_of kinds.after j) site

-- all that is made of a graph and its kinds of steps
pub record IsPlan (g : List FlowNode) (kinds : StepKinds) (plan : Plan) : Type 0 where
  pub numbers : HasKinds g kinds
  pub level : IsExtended g kinds Level plan.level.nodes
  pub up : IsExtended g kinds Up plan.up.nodes
  pub down : IsExtended g kinds Down plan.down.nodes
  pub sites : AreSites g kinds (length kinds.after) plan.sites

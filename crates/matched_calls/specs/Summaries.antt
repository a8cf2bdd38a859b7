-- Which calls come back, as words of bits. The project's own.
use Rattle.std.specs.Prelude.{◌≡◌, ◌≢◌, ◌⊎◌, ◌↔◌, ℕ, ◌+◌, ◌<◌, Bool, false, List, length, Contains, slice_get, slice_index, Some}
use Rattle.flow_graph.specs.declared.graph.FlowNode.{FlowNode}
use Rattle.flow_graph.specs.FlowGraph.{IsStep}
use Rattle.flow_graph.specs.Marked.{Marked}
use Rattle.flow_graph.specs.Rows.{HasBit, IsBit, room}
use Rattle.matched_calls.specs.declared.kinds.StepKinds.{StepKinds}
use Rattle.matched_calls.specs.declared.sites.Site.{Site}
use Rattle.matched_calls.specs.declared.sites.Plan.{Plan}
use Rattle.matched_calls.specs.Phases.{ComesBack}
use Rattle.matched_calls.specs.Extended.{pair_of}

-- bit k of node n, where this node has got this word
abbrev pub IsSeated : List ℕ → ℕ → ℕ → ℕ → ℕ → Type 0
IsSeated rows node word n k = ((n ≢ node) × HasBit rows n k) ⊎ ((n ≡ node) × (n < length rows) × IsBit word k)

-- n is one of these nodes, and keeps bit k
abbrev pub IsExit : List ℕ → List ℕ → ℕ → ℕ → Type 0
IsExit exits kept n k = Contains exits n × (n < length kept) × HasBit kept n k

-- the fact of bit k
abbrev pub KeepsBit : List ℕ → ℕ → ℕ → Type 0
KeepsBit kept k n = HasBit kept n k

-- in the level graph, over nodes that keep bit k, n comes to one of these exits
abbrev pub ReachesExit : List FlowNode → List ℕ → List ℕ → ℕ → ℕ → Type 0
ReachesExit level kept exits k n = Marked (λ x. IsExit exits kept x k) (λ next m. IsStep level m next × HasBit kept m k) n

-- The call of this number has each bit with which one of its entries comes to one of its exits.
abbrev pub IsTight : List FlowNode → StepKinds → Plan → List ℕ → ℕ → Type 0
IsTight g kinds plan kept j = (site : Site) → slice_get plan.sites j ≡ Some site → (e k : ℕ) → Contains site.entries e → ReachesExit plan.level.nodes kept site.exits k e → HasBit kept (length g + j) k

-- the words behind those of the nodes say of some calls, and of no others, that they come back
abbrev pub IsSound : List FlowNode → StepKinds → List ℕ → Type 0
IsSound g kinds kept = (j k : ℕ) → j < length kinds.after → HasBit kept (length g + j) k → ComesBack g kinds (KeepsBit kept k) (pair_of kinds.after j).0 (pair_of kinds.after j).1

-- they say just which calls come back
abbrev pub IsSummary : List FlowNode → StepKinds → List ℕ → Type 0
IsSummary g kinds kept = (j k : ℕ) → j < length kinds.after → k < 64 → HasBit kept (length g + j) k ↔ ComesBack g kinds (KeepsBit kept k) (pair_of kinds.after j).0 (pair_of kinds.after j).1

-- What a step of noting does to the words: the nodes' stay, what is noted is so, and it says whether one changed.
pub record Raises (g : List FlowNode) (kinds : StepKinds) (old new : List ℕ) (changed : Bool) : Type 0 where
  pub len : length new ≡ length old
  pub same : (n : ℕ) → n < length g → slice_index new n ≡ slice_index old n
  pub sound : IsSound g kinds old → IsSound g kinds new
  pub stays : changed ≡ false → new ≡ old
  pub less : changed ≢ false → room new < room old

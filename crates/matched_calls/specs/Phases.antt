-- Matched walks in two phases: first steps that may return, then steps that may call; calls that come back are steps of both. The
-- project's own.
use Rattle.std.specs.Prelude.{◌≡◌, ◌⊎◌, ℕ, List, Contains}
use Rattle.flow_graph.specs.declared.graph.FlowNode.{FlowNode}
use Rattle.flow_graph.specs.FlowGraph.{IsStep}
use Rattle.flow_graph.specs.Marked.{Marked}
use Rattle.matched_calls.specs.declared.kinds.StepKinds.{StepKinds}
use Rattle.matched_calls.specs.declared.kinds.Phase.{Phase}
use Rattle.matched_calls.specs.declared.kinds.Phase.TheVariants.{Level, Up, Down}
use Rattle.matched_calls.specs.Matched.{IsOther}

abbrev pub IsPlain : List FlowNode → StepKinds → ℕ → ℕ → Type 0
IsPlain g kinds m n = IsStep g m n × IsOther kinds m n

abbrev pub IsCall : List FlowNode → StepKinds → ℕ → ℕ → Type 0
IsCall g kinds m n = IsStep g m n × Contains kinds.calls (m, n)

abbrev pub IsReturn : List FlowNode → StepKinds → ℕ → ℕ → Type 0
IsReturn g kinds m n = IsStep g m n × Contains kinds.returns (m, n)

-- what kinds of steps a phase takes one by one
abbrev pub IsTaken : StepKinds → Phase → ℕ → ℕ → Type 0
IsTaken kinds Level m n = IsOther kinds m n
IsTaken kinds Up m n = IsOther kinds m n ⊎ Contains kinds.returns (m, n)
IsTaken kinds Down m n = IsOther kinds m n ⊎ Contains kinds.calls (m, n)

abbrev pub IsFlow : List FlowNode → StepKinds → Phase → ℕ → ℕ → Type 0
IsFlow g kinds phase m n = IsStep g m n × IsTaken kinds phase m n

-- A walk from the one node to the other on which each call comes back, over nodes of which the fact holds, both ends included.
pub data Inside (g : List FlowNode) (kinds : StepKinds) (Kept : ℕ → Type 0) : ℕ → ℕ → Type 0 where
  here : {x : ℕ} → Kept x → Inside g kinds Kept x x
  along : {x y z : ℕ} → Kept x → IsPlain g kinds x y → Inside g kinds Kept y z → Inside g kinds Kept x z
  over : {c e x y z : ℕ} → Kept c → IsCall g kinds c e → Inside g kinds Kept e x → IsReturn g kinds x y → Contains kinds.after (c, y) → Inside g kinds Kept y z → Inside g kinds Kept c z

-- the call at c comes back to y
pub record ComesBack (g : List FlowNode) (kinds : StepKinds) (Kept : ℕ → Type 0) (c y : ℕ) : Type 0 where
  pub entry : ℕ
  pub exit : ℕ
  pub call : IsCall g kinds c entry
  pub inside : Inside g kinds Kept entry exit
  pub returns : IsReturn g kinds exit y
  pub after : Contains kinds.after (c, y)

-- a step of a phase
abbrev pub Goes : List FlowNode → StepKinds → (ℕ → Type 0) → Phase → ℕ → ℕ → Type 0
Goes g kinds Kept phase m n = IsFlow g kinds phase m n ⊎ ComesBack g kinds Kept m n

-- by steps of a phase, over nodes of which the fact holds, n comes to a node that begins
abbrev pub Comes : List FlowNode → StepKinds → (ℕ → Type 0) → Phase → (ℕ → Type 0) → ℕ → Type 0
Comes g kinds Kept phase Begins n = Marked Begins (λ next m. Goes g kinds Kept phase m next × Kept m) n

-- n comes down to the target, and n comes up to a node that does
abbrev pub IsAbove : List FlowNode → StepKinds → (ℕ → Type 0) → ℕ → ℕ → Type 0
IsAbove g kinds Kept target n = Comes g kinds Kept Down (λ m. m ≡ target) n

abbrev pub IsBelow : List FlowNode → StepKinds → (ℕ → Type 0) → ℕ → ℕ → Type 0
IsBelow g kinds Kept target n = Comes g kinds Kept Up (IsAbove g kinds Kept target) n

-- the first step of a walk in two phases
abbrev pub Leads : List FlowNode → StepKinds → (ℕ → Type 0) → ℕ → ℕ → Type 0
Leads g kinds Kept target m = ((next : ℕ) × Goes g kinds Kept Down m next × IsAbove g kinds Kept target next) ⊎ ((next : ℕ) × Goes g kinds Kept Up m next × IsBelow g kinds Kept target next)

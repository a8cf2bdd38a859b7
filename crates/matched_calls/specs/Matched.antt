-- Walks on which returns go home to their calls. The project's own, after interprocedural paths as Sharir, Pnueli and Reps define them.
use Rattle.std.specs.Prelude.{◌≡◌, ◌⊎◌, ℕ, ◌<◌, List, [], ◌∷◌, length, All, Contains}
use Rattle.std.specs.List.{AllByRecursion}
use Rattle.flow_graph.specs.declared.graph.FlowNode.{FlowNode}
use Rattle.flow_graph.specs.FlowGraph.{IsStep, MayUse, MayDefine, MustDefine}
use Rattle.control_walks.specs.ControlWalks.{Controls}
use Rattle.matched_calls.specs.declared.kinds.StepKinds.{StepKinds}

-- A return to n with these calls pending leaves those: where none is pending it is free, and else it goes to the place after the newest.
abbrev pub Pops : StepKinds → List ℕ → ℕ → List ℕ → Type 0
Pops kinds [] n left = left ≡ []
Pops kinds (call ∷ older) n left = Contains kinds.after (call, n) × (left ≡ older)

-- the step from m to n is neither a call nor a return
abbrev pub IsOther : StepKinds → ℕ → ℕ → Type 0
IsOther kinds m n = (¬ Contains kinds.calls (m, n)) × (¬ Contains kinds.returns (m, n))

-- What a step from m to n makes of the pending calls: a call adds its node, a return takes the newest away, and any other leaves them.
abbrev pub Turns : StepKinds → ℕ → ℕ → List ℕ → List ℕ → Type 0
Turns kinds m n pending left =
    (Contains kinds.calls (m, n) × (left ≡ m ∷ pending))
    ⊎ ((Contains kinds.returns (m, n) × Pops kinds pending n left)
    ⊎ (IsOther kinds m n × (left ≡ pending)))

-- a walk of one or more steps from m to n, with its inner nodes in order, which begins with these calls pending and ends with those
abbrev pub MatchedWalk : List FlowNode → StepKinds → ℕ → List ℕ → List ℕ → ℕ → List ℕ → Type 0
MatchedWalk g kinds m pending [] n left = IsStep g m n × Turns kinds m n pending left
MatchedWalk g kinds m pending (i ∷ inner) n left = (next : List ℕ) × IsStep g m i × Turns kinds m i pending next × MatchedWalk g kinds i next inner n left

-- some walk that begins with no call pending goes from m to n over inner nodes of which the fact holds
abbrev pub Matches : List FlowNode → StepKinds → (ℕ → Type 0) → ℕ → ℕ → Type 0
Matches g kinds Kept m n = (inner : List ℕ) × (left : List ℕ) × MatchedWalk g kinds m [] inner n left × AllByRecursion Kept inner

-- By this place an edge goes from m to n: m may define it, n may use it, and some matched walk of one or more steps from m to n has
-- no inner node that must define it.
pub record MatchedEdge (g : List FlowNode) (kinds : StepKinds) (place m n : ℕ) : Type 0 where
  pub defines : MayDefine g place m
  pub uses : MayUse g place n
  pub matches : Matches g kinds (λ i. ¬ MustDefine g place i) m n

-- branch b controls node n, and some matched walk of one or more steps goes from b to n
pub record MatchedControl (g : List FlowNode) (kinds : StepKinds) (b n : ℕ) : Type 0 where
  pub controls : Controls g b n
  pub matches : Matches g kinds (λ i. Unit {0}) b n

-- each number of these pairs is that of a node
pub record HasKinds (g : List FlowNode) (kinds : StepKinds) : Type 0 where
  pub calls : All (λ pair. (pair.0 < length g) × (pair.1 < length g)) kinds.calls
  pub returns : All (λ pair. (pair.0 < length g) × (pair.1 < length g)) kinds.returns
  pub after : All (λ pair. (pair.0 < length g) × (pair.1 < length g)) kinds.after

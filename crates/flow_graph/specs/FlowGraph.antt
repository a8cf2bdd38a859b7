-- Places, steps and walks of a flow graph. The project's own, after the flow graphs on which slices are usually defined.
--
-- A place is a number. 0 to 7 are the registers in the order of `Reg`, so that ESP is 4; 8 to 12 are CF, PF, ZF, SF
-- and OF, and 13 is DF; cells of memory come from 14 on.
-- A graph is the list of its nodes, and a node is named by its index in that list.
use Rattle.std.specs.Prelude.{◌≡◌, ◌⊎◌, ℕ, List, [], ◌∷◌, ◌++◌, Contains, slice_get, IsSomeAnd, IsTrue}
use Rattle.std.specs.List.{AllByRecursion}
use Rattle.flow_graph.specs.declared.graph.FlowNode.{FlowNode}

-- ESP's place
abbrev pub esp_place : ℕ
esp_place = 4

-- the graph has a node of this number, and the fact holds of it
abbrev pub Has : List FlowNode → ℕ → (FlowNode → Type 0) → Type 0
Has g n P = IsSomeAnd (slice_get g n) P

-- node n stands at this address
abbrev pub IsAt : List FlowNode → ℕ → ℕ → Type 0
IsAt g at n = Has g n (λ node. node.at ≡ at)

abbrev pub IsBranch : List FlowNode → ℕ → Type 0
IsBranch g n = Has g n (λ node. IsTrue node.branch)

abbrev pub IsEnd : List FlowNode → ℕ → Type 0
IsEnd g n = Has g n (λ node. IsTrue node.end)

-- control may go from m to n in one step
abbrev pub IsStep : List FlowNode → ℕ → ℕ → Type 0
IsStep g m n = Has g m (λ node. Contains node.next n)

abbrev pub MayUse : List FlowNode → ℕ → ℕ → Type 0
MayUse g place n = Has g n (λ node. Contains node.may_use place)

abbrev pub MayDefine : List FlowNode → ℕ → ℕ → Type 0
MayDefine g place n = Has g n (λ node. Contains node.may_def place)

abbrev pub MustDefine : List FlowNode → ℕ → ℕ → Type 0
MustDefine g place n = Has g n (λ node. Contains node.must_def place)

-- a walk of one or more steps from m to n, with its inner nodes in order
abbrev pub Walk : List FlowNode → ℕ → List ℕ → ℕ → Type 0
Walk g m [] n = IsStep g m n
Walk g m (i ∷ inner) n = IsStep g m i × Walk g i inner n

-- a walk of no or more steps goes from m to n
abbrev pub Reaches : List FlowNode → ℕ → ℕ → Type 0
Reaches g m n = (m ≡ n) ⊎ ((inner : List ℕ) × Walk g m inner n)

-- node n doesn't stand at this address
abbrev pub Avoids : List FlowNode → ℕ → ℕ → Type 0
Avoids g at n = ¬ IsAt g at n

-- some walk of no or more steps leads from y to an end, and no node on it, y and the end included, stands at this address
abbrev pub Escapes : List FlowNode → ℕ → ℕ → Type 0
Escapes g at y =
    Avoids g at y × (IsEnd g y ⊎ ((inner : List ℕ) × (last : ℕ) × Walk g y inner last × AllByRecursion (Avoids g at) (inner ++ last ∷ []) × IsEnd g last))

-- The data edges of a flow graph: what a node defines may reach a node that uses it. The project's own.
use Rattle.std.specs.Prelude.{ℕ, List}
use Rattle.std.specs.List.{AllByRecursion}
use Rattle.flow_graph.specs.declared.graph.FlowNode.{FlowNode}
use Rattle.flow_graph.specs.FlowGraph.{MayUse, MayDefine, MustDefine, Walk}

-- some walk of one or more steps leads from m to n, and no inner node of it must define this place
abbrev pub Arrives : List FlowNode → ℕ → ℕ → ℕ → Type 0
Arrives g place m n = (inner : List ℕ) × Walk g m inner n × AllByRecursion (λ i. ¬ MustDefine g place i) inner

-- By this place an edge goes from m to n: m may define it, n may use it, and some walk of one or more steps from m to n
-- has no inner node that must define it.
pub record DataEdge (g : List FlowNode) (place m n : ℕ) : Type 0 where
  pub defines : MayDefine g place m
  pub uses : MayUse g place n
  pub inner : List ℕ
  pub walk : Walk g m inner n
  pub kept : AllByRecursion (λ i. ¬ MustDefine g place i) inner

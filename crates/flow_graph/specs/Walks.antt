-- Walks one by one: what a search over marks and a list of waiting nodes knows. The project's own.
use Rattle.std.specs.Prelude.{◌≡◌, ◌⊎◌, ℕ, ◌+◌, ◌<◌, ◌==◌, Bool, false, cond, not, map, List, length, Contains, IsTrue, slice_index_or, sum_by}
use Rattle.std.specs.List.{AllByRecursion}
use Rattle.flow_graph.specs.declared.graph.FlowNode.{FlowNode}
use Rattle.flow_graph.specs.FlowGraph.{Walk}

-- the mark of number n is set; a number past the marks has none
abbrev pub IsOn : List Bool → ℕ → Type 0
IsOn marks n = IsTrue (slice_index_or marks n false)

-- some walk of one or more steps goes from m to n, and its inner nodes are kept
abbrev pub Arrives : List FlowNode → List Bool → ℕ → ℕ → Type 0
Arrives g kept m n = (inner : List ℕ) × Walk g m inner n × AllByRecursion (IsOn kept) inner

-- the marks of the nodes that don't stand at this address
abbrev pub marks_avoiding : ℕ → List FlowNode → List Bool
marks_avoiding at g = map (λ node. not (node.at == at)) g

-- how many marks aren't set
unfoldable pub unmarked : List Bool → ℕ
unmarked marks = sum_by (λ mark. cond mark 0 1) marks

-- A step of a search: each of these targets is marked, and waits if it wasn't marked before.
pub record Follows (IsTarget : ℕ → Type 0) (old : List Bool) (old_work : List ℕ) (new : List Bool) (new_work : List ℕ) : Type 0 where
  pub kept : (n : ℕ) → IsOn old n → IsOn new n
  pub why : (n : ℕ) → IsOn new n → IsOn old n ⊎ (IsTarget n × (n < length old))
  pub on : (n : ℕ) → IsTarget n → n < length old → IsOn new n
  pub waits : (n : ℕ) → IsOn new n → IsOn old n ⊎ Contains new_work n
  pub still_waits : (n : ℕ) → Contains old_work n → Contains new_work n
  pub queued : (n : ℕ) → Contains new_work n → Contains old_work n ⊎ IsOn new n
  pub work : unmarked new + length new_work ≡ unmarked old + length old_work

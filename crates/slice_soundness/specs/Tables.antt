-- Maps that are kept as a list of nodes with their abstract states, and the check of such a list. The project's own.
use Rattle.std.specs.Prelude.{◌≡◌, ℕ, suc, ◌&&◌, not, Bool, true, false, if◌then◌else◌, List, [], ◌∷◌, map, Option, Some, None, Contains, IsTrue}
use Rattle.std.specs.List.{list_all}
use Rattle.flow_graph.specs.declared.graph.FlowNode.{FlowNode}
use Rattle.ia32_semantics.specs.Machine.{Machine}
use Rattle.ia32_semantics.specs.Runs.{OccurrenceOf}
use Rattle.call_strings.specs.declared.context.Node.{Node}
use Rattle.call_strings.specs.Nodes.{same_node}
use Rattle.slice_soundness.specs.Nodes.{entry_node}
use Rattle.slice_soundness.specs.Maps.{Map, here}
use Rattle.slice_soundness.specs.Premises.{Comes}

-- -- Rows

-- the abstract state of a node's row
unfoldable pub value_in : {A : Type 0} → List (Node × A) → Node → Option A
value_in [] n = None
value_in (row ∷ rows) n = if same_node row.0 n then Some row.1 else value_in rows n

-- the index of a node's row
unfoldable pub number_in : {A : Type 0} → List (Node × A) → Node → ℕ
number_in [] n = 0
number_in (row ∷ rows) n = if same_node row.0 n then 0 else suc (number_in rows n)

-- -- A map as a table

pub record Table (v : Map) : Type 0 where
  pub rows : List (Node × v.Abs)
  -- of a node with its abstract state
  pub successors : Node → v.Abs → List (Node × v.Abs)
  pub is_below : v.Abs → v.Abs → Bool
  pub flow : Node → v.Abs → FlowNode

-- The map is the one that is kept as this table.
pub record IsKept (v : Map) (t : Table v) : Type 0 where
  pub values : (n : Node) → v.value n ≡ value_in t.rows n
  pub numbers : (n : Node) → v.number n ≡ number_in t.rows n
  pub graph : v.graph ≡ map (λ row. t.flow row.0 row.1) t.rows
  pub successors : (n to : Node) (a next : v.Abs) → v.value n ≡ Some a → v.IsSuccessor n to next → Contains (t.successors n a) (to, next)
  pub below : (a b : v.Abs) → t.is_below a b ≡ true → v.Below a b
  pub canonical : (n : Node) (a : v.Abs) → v.value n ≡ Some a → v.IsCanonical a

-- -- The check

-- an abstract state that is there, and is above another
abbrev pub is_above : {A : Type 0} → (A → A → Bool) → Option A → A → Bool
is_above is_below None a = false
is_above is_below (Some b) a = is_below a b

-- the table has the node, with an abstract state above this one
abbrev pub has_above : (v : Map) → Table v → Node × v.Abs → Bool
has_above v t comes = is_above t.is_below (value_in t.rows comes.0) comes.1

-- where a run starts, and wherever the successors of a row come, the table has an abstract state above
abbrev pub is_closed : (v : Map) → Table v → ℕ → Bool
is_closed v t entry = has_above v t (entry_node entry, v.initial) && list_all (λ row. list_all (has_above v t) (t.successors row.0 row.1)) t.rows

-- no warning stands at a row
abbrev pub is_quiet : (v : Map) → Table v → Bool
is_quiet v t = list_all (λ row. not (v.is_warned row.0)) t.rows

-- -- The graph

-- What the nodes of the graph have by the rows of the table. Access facts deliver it.
pub record IsFlow (m : Machine) (v : Map) (t : Table v) : Type 0 where
  pub at : (n : Node) (a : v.Abs) → v.value n ≡ Some a → (t.flow n a).at ≡ n.at
  pub next : (n to : Node) (a b next : v.Abs) → v.value n ≡ Some a → Contains (t.successors n a) (to, next) → v.value to ≡ Some b → Contains (t.flow n a).next (number_in t.rows to)
  pub branch : (o : OccurrenceOf m) (a : v.Abs) → Comes m v o → v.value (here v o.before) ≡ Some a → m.is_branch o.act ≡ true → IsTrue (t.flow (here v o.before) a).branch
  pub end : (o : OccurrenceOf m) (a : v.Abs) → Comes m v o → v.value (here v o.before) ≡ Some a → m.completes o ≡ true → IsTrue (t.flow (here v o.before) a).end

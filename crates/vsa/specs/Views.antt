-- Nodes with states, and nodes with tables. The project's own.
use Rattle.std.specs.Prelude.{◌≡◌, true, List, [], ◌∷◌, map}
use Rattle.std.specs.List.{AllByRecursion}
use Rattle.std.specs.Borrow.{Bor}
use Rattle.call_strings.specs.declared.context.Node.{Node}
use Rattle.call_strings.specs.Nodes.{node_before}
use Rattle.abs_state.specs.declared.state.AbsState.{AbsState as Held}
use Rattle.abs_state.specs.Views.{seen}
use Rattle.abs_steps.specs.Successors.{Placed, States, at_node}
use Rattle.transfer_flow.specs.declared.site.Program.{Program}
use Rattle.sweeps.specs.Kept.{zip_with}
use Rattle.vsa.specs.declared.states.States.{States as HeldStates}
use Rattle.vsa.specs.Tables.{Table, table_of}

abbrev pub tabled : Placed → Node × Table
tabled p = (p.node, table_of p.state)

abbrev pub tables_of : List Placed → List (Node × Table)
tables_of ps = map tabled ps

-- nodes with tables that are lent
abbrev pub lent_tables : List (Bor Node × Bor Table) → List (Node × Table)
lent_tables xs = map {B = Node × Table} (λ x. (x.0.now, x.1.now)) xs

-- nodes and the states that the code holds for them
abbrev pub placed_with : List Node → List Held → List Placed
placed_with nodes values = zip_with (λ n a. at_node n (seen a)) nodes values

-- a map of a program that has these nodes
abbrev pub states_with : Program → List Placed → States
states_with p placed = record { lane = p.lane; cells = p.cells.now; placed = placed }

abbrev pub told : HeldStates → States
told s = record { lane = s.lane; cells = s.cells; placed = placed_with s.nodes.items s.values.items }

-- each node stands before those that follow
abbrev pub NodesRise : List Node → Type 0
NodesRise [] = Unit {0}
NodesRise (n ∷ ns) = AllByRecursion (λ k. node_before n k ≡ true) ns × NodesRise ns

-- The numbers of nodes that control may go to. The project's own.
use Rattle.std.specs.Prelude.{ℕ, Bool, List}
use Rattle.std.specs.List.{list_any}
use Rattle.call_strings.specs.declared.context.Node.{Node}
use Rattle.call_strings.specs.Nodes.{same_node}
use Rattle.abs_state.specs.declared.state.AbsState.{AbsState}
use Rattle.abs_steps.specs.Successors.{Placed}
use Rattle.access_facts.specs.Places.{picked}

-- a node is that of one of these successors
abbrev pub has_node : List Placed → Node → Bool
has_node targets n = list_any (λ (p : Placed). same_node p.node n) targets

-- the same, where successors are as the code has them
abbrev pub has_target : List (Node × AbsState) → Node → Bool
has_target targets n = list_any (λ (x : Node × AbsState). same_node x.0 n) targets

-- counted from 0
abbrev pub numbers_of_targets : List Placed → List Placed → List ℕ
numbers_of_targets targets placed = picked (λ (p : Placed). has_node targets p.node) 0 placed

abbrev pub numbers_of : Node → List Placed → List ℕ
numbers_of n placed = picked (λ (p : Placed). same_node n p.node) 0 placed

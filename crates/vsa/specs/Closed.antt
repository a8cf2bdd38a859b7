-- Whether a map of a program has all to which control may go. The project's own.
use Rattle.std.specs.Prelude.{ℕ, ◌&&◌, Bool, false, if◌then◌else◌, List, [], ◌∷◌}
use Rattle.std.specs.List.{list_all}
use Rattle.image_map.specs.declared.image.Image.{Image}
use Rattle.image_map.specs.declared.region.Settings.{Settings}
use Rattle.call_strings.specs.declared.context.Node.{Node}
use Rattle.call_strings.specs.Nodes.{same_node}
use Rattle.abs_semantics.specs.Below.{state_below}
use Rattle.abs_semantics.specs.Start.{initial_state}
use Rattle.abs_steps.specs.Successors.{Placed, States, at_node, successors}

-- the node at which runs start
abbrev pub entry_node : ℕ → Node
entry_node entry = record { context = record { proc = entry; sites = [] }; at = entry }

-- the map has the node, with a state above this one
unfoldable pub has_above : List Placed → Placed → Bool
has_above [] p = false
has_above (q ∷ qs) p = if same_node q.node p.node then state_below p.state q.state else has_above qs p

-- it has each successor of a node, above what comes to it
abbrev pub goes_within : Image → Settings → States → Placed → Bool
goes_within image settings s p = list_all (has_above s.placed) (successors image settings s p.node p.state)

-- it has the entry, above the state in which runs start, and each successor of each of its nodes
unfoldable pub is_closed : Image → Settings → States → Bool
is_closed image settings s =
    has_above s.placed (at_node (entry_node settings.entry) (initial_state image s.cells settings.entry))
    && list_all (goes_within image settings s) s.placed

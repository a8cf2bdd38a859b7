-- The check of a map: it is closed under its steps, and no warning stands in it. The project's own.
use Rattle.std.specs.Prelude.{◌≡◌, ◌&&◌, not, Bool, false, Option, Some, None}
use Rattle.std.specs.List.{list_all}
use Rattle.image_map.specs.declared.image.Image.{Image}
use Rattle.image_map.specs.declared.region.Settings.{Settings}
use Rattle.call_strings.specs.declared.context.Node.{Node}
use Rattle.abs_semantics.specs.Below.{state_below}
use Rattle.abs_semantics.specs.Start.{initial_state}
use Rattle.abs_semantics.specs.States.{AbsState}
use Rattle.abs_steps.specs.Successors.{Placed, States, at_node, successors}
use Rattle.slice_soundness.specs.Nodes.{entry_node}
use Rattle.call_soundness.specs.Maps.{HasForm, state_in, warned_by}

-- a state that is there, and is above another
abbrev pub is_above : Option AbsState → AbsState → Bool
is_above None a = false
is_above (Some b) a = state_below a b

abbrev pub has_above : States → Placed → Bool
has_above states p = is_above (state_in p.node states.placed) p.state

-- where a run starts, and wherever the successors of a node come, the map has a state above
abbrev pub is_closed : Image → Settings → States → Bool
is_closed image settings states =
    has_above states (at_node (entry_node settings.entry) (initial_state image states.cells settings.entry))
    && list_all (λ (p : Placed). list_all (has_above states) (successors image settings states p.node p.state)) states.placed

abbrev pub is_quiet : Image → Settings → States → Bool
is_quiet image settings states = list_all (λ (p : Placed). not (warned_by image settings states p.node (state_in p.node states.placed))) states.placed

-- each state has the form that the analysis keeps
abbrev pub HaveForms : States → Type 0
HaveForms states = (n : Node) (a : AbsState) → state_in n states.placed ≡ Some a → HasForm a

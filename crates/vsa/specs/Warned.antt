-- What can't be followed in a map of a program, as a list of warnings. The project's own.
use Rattle.std.specs.Prelude.{ℕ, ◌==◌, ◌&&◌, nat_lt, Bool, if◌then◌else◌, List, [], ◌∷◌, ◌++◌, map}
use Rattle.std.specs.List.{flat_map, fold}
use Rattle.image_map.specs.declared.image.Image.{Image}
use Rattle.image_map.specs.declared.region.Settings.{Settings}
use Rattle.abs_steps.specs.declared.warnings.WarnName.{WarnName}
use Rattle.abs_steps.specs.declared.warnings.WarnName.TheVariants as name
use Rattle.abs_steps.specs.Places.{content_at}
use Rattle.abs_steps.specs.Rows.{view_of}
use Rattle.abs_steps.specs.Successors.{Placed, States}
use Rattle.abs_steps.specs.Warnings.{warnings}
use Rattle.abs_state.specs.Puts.{put_in}
use Rattle.vsa.specs.declared.warning.Warning.{Warning}
use Rattle.vsa.specs.Closed.{is_closed}

-- -- Their order: by address, then by name

abbrev pub name_number : WarnName → ℕ
name_number name.Undecoded = 0
name_number name.UnresolvedJump = 1
name_number name.UnknownWrite = 2
name_number name.OutOfRegion = 3
name_number name.HeapOverrun = 4
name_number name.ReturnSlot = 5
name_number name.StackLost = 6
name_number name.UnknownExtern = 7
name_number name.Full = 8
name_number name.NotClosed = 9

abbrev pub same_warning : Warning → Warning → Bool
same_warning a b = a.at == b.at && name_number a.name == name_number b.name

abbrev pub warning_before : Warning → Warning → Bool
warning_before a b = if a.at == b.at then nat_lt (name_number a.name) (name_number b.name) else nat_lt a.at b.at

-- one more, in its place, once
abbrev pub with_warning : List Warning → Warning → List Warning
with_warning ws w = put_in (λ x. same_warning x w) (λ x. warning_before x w) (λ x. w) w ws

-- -- Those of a map

abbrev pub named_at : ℕ → WarnName → Warning
named_at at x = record { at = at; name = x }

-- at address 0: more nodes were met than a map may have, and the map isn't closed
abbrev pub of_map : Bool → Bool → List Warning
of_map full closed = (if full then named_at 0 name.Full ∷ [] else []) ++ (if closed then [] else named_at 0 name.NotClosed ∷ [])

-- what can't be followed at a node
abbrev pub warnings_at : Image → Settings → States → Placed → List Warning
warnings_at image settings s p =
    map (named_at p.node.at) (warnings (content_at image settings p.node.at) image (view_of p.state s.cells p.node.context.proc))

-- those of all nodes and of the whole, rising, each once
unfoldable pub map_warnings : Image → Settings → States → Bool → List Warning
map_warnings image settings s full =
    fold with_warning [] (flat_map (warnings_at image settings s) s.placed ++ of_map full (is_closed image settings s))

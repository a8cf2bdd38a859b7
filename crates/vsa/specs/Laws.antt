-- What the check's answers say. The project's own.
use Rattle.std.specs.Prelude.{◌≡◌, Bool, true, false, List, []}
use Rattle.std.specs.List.{list_any, AllByRecursion}
use Rattle.image_map.specs.declared.image.Image.{Image}
use Rattle.image_map.specs.declared.region.Settings.{Settings}
use Rattle.call_strings.specs.declared.context.Node.{Node}
use Rattle.call_strings.specs.Nodes.{same_node}
use Rattle.abs_steps.specs.declared.warnings.WarnName.{WarnName}
use Rattle.abs_steps.specs.Places.{content_at}
use Rattle.abs_steps.specs.Rows.{view_of}
use Rattle.abs_steps.specs.Successors.{Placed, States}
use Rattle.abs_steps.specs.Warnings.{warnings}
use Rattle.vsa.specs.Closed.{is_closed}

abbrev pub has_node : Node → List Placed → Bool
has_node n ps = list_any (λ (p : Placed). same_node p.node n) ps

abbrev pub node_warnings : Image → Settings → States → Placed → List WarnName
node_warnings image settings s p = warnings (content_at image settings p.node.at) image (view_of p.state s.cells p.node.context.proc)

-- The map has fewer nodes than it may, is closed under steps, and no warning stands at a node.
pub record IsClean (image : Image) (settings : Settings) (s : States) (full : Bool) : Type 0 where
  pub not_full : full ≡ false
  pub closed : is_closed image settings s ≡ true
  pub quiet : AllByRecursion (λ p. node_warnings image settings s p ≡ []) s.placed

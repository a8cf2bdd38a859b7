-- Successors as the code tells them. The project's own.
use Rattle.std.specs.Prelude.{ℕ, ◌==◌, ◌&&◌, not, Bool, true, false, List, [], ◌∷◌, map, if◌then◌else◌, Option, Some, None}
use Rattle.std.specs.List.{list_any, flat_map}
use Rattle.std.specs.Borrow.{Bor}
use Rattle.image_map.specs.declared.image.Image.{Image}
use Rattle.image_map.specs.declared.region.Settings.{Settings}
use Rattle.ia32_types.specs.declared.Op.{Op}
use Rattle.ia32_types.specs.declared.Op.TheVariants as op
use Rattle.call_strings.specs.declared.context.Node.{Node}
use Rattle.call_strings.specs.Nodes.{same_node}
use Rattle.abs_semantics.specs.declared.parts.Link.{Link}
use Rattle.abs_semantics.specs.States.{AbsState as State}
use Rattle.abs_state.specs.declared.state.AbsState.{AbsState}
use Rattle.abs_state.specs.Views.{seen}
use Rattle.abs_steps.specs.Calls.{returned}
use Rattle.abs_steps.specs.Views.{View}
use Rattle.abs_steps.specs.Places.{content_at}
use Rattle.abs_steps.specs.Rows.{view_of}
use Rattle.abs_steps.specs.Successors.{Placed, States, at_node, moved_to, callee_node, calls_at, place_behind}
use Rattle.transfer_flow.specs.declared.site.Program.{Program}
use Rattle.transfer_flow.specs.declared.site.Site.{Site}
use Rattle.transfer_flow.specs.declared.returning.Caller.{Caller as CodeCaller}

abbrev pub placed_by : Node × AbsState → Placed
placed_by x = at_node x.0 (seen x.1)

abbrev pub all_placed : List (Node × AbsState) → List Placed
all_placed xs = map placed_by xs

-- the state at its procedure
abbrev pub view_at : Site → View
view_at s = view_of (seen s.state.now) s.program.now.cells.now s.node.now.context.proc

-- -- Returns

-- a node of a call that may have led to the activation that ends, and the place after the call
pub record Caller : Type 0 where
  pub node : Node
  pub next : ℕ

abbrev pub caller_by : CodeCaller → Caller
caller_by c = record { node = c.node.now; next = c.next }

-- the call at a node may have led to the activation of a node
abbrev pub is_caller : Image → Settings → States → Node → Placed → Bool
is_caller image settings s n c =
    same_node (callee_node s.lane c.node.at n.context.proc c.node) (record n { at = n.context.proc })
    && calls_at s c.node c.state (content_at image settings c.node.at) n.context.proc

-- the place after the call at a node, where the instruction there is a call that may go to a procedure
abbrev pub place_after : Image → Settings → States → Placed → ℕ → Option ℕ
place_after image settings s c q =
    if calls_at s c.node c.state (content_at image settings c.node.at) q then Some (place_behind (content_at image settings c.node.at)) else None

abbrev pub if_caller : Image → Settings → States → Node → Placed → List Caller
if_caller image settings s n c =
    if is_caller image settings s n c then record { node = c.node; next = place_behind (content_at image settings c.node.at) } ∷ [] else []

-- a procedure is the parent of a link by which the newest activation of another was called
abbrev pub is_parent : ℕ → List Link → ℕ → Bool
is_parent q ls p = list_any (λ (l : Link). (l.child == q && not l.aged) && p == l.parent) ls

-- the same of callers by some link
abbrev pub if_near : Image → Settings → States → Node → List Link → Placed → List Caller
if_near image settings s n ls c = if is_parent n.context.proc ls c.node.context.proc then if_caller image settings s n c else []

-- a state at the place after a call, where the call is one of a procedure
abbrev pub behind : ℕ → State → Caller → List Placed
behind parent a c = if c.node.context.proc == parent then at_node (moved_to c.next c.node) a ∷ [] else []

-- the places after the calls that a link stands for
abbrev pub by_link : List Caller → ℕ → ℕ → State → Link → List Placed
by_link callers q extra a l = if l.child == q && not l.aged then flat_map (behind l.parent (returned q l.parent l.off extra a)) callers else []

-- -- Maps

-- other nodes with their states
abbrev pub placed_of : Bor Node × Bor AbsState → Placed
placed_of x = at_node x.0.now (seen x.1.now)

abbrev pub states_of : Program → List (Bor Node × Bor AbsState) → States
states_of p others = record { lane = p.lane; cells = p.cells.now; placed = map placed_of others }

-- control doesn't simply go on to the next instruction
abbrev pub is_control : Op → Bool
is_control (op.Jcc c) = true
is_control op.Jmp = true
is_control op.Call = true
is_control op.Ret = true
is_control op.Hlt = true
is_control op.Int3 = true
is_control op.Ud2 = true
is_control _ = false

-- Where control goes from a node, and with which abstract state. The rules are the project's own.
use Rattle.std.specs.Prelude.{ℕ, ◌+◌, ◌==◌, ◌&&◌, not, Bool, true, false, ℤ, pos, ◌+ℤ◌, int_le, int_lt, if◌then◌else◌, List, [], ◌∷◌, ◌++◌, map, filter, Option, Some, None}
use Rattle.std.specs.List.{list_any, flat_map}
use Rattle.std.specs.Ordering.{int_eq}
use Rattle.image_map.specs.declared.image.Image.{Image}
use Rattle.image_map.specs.declared.region.Kind.{Kind}
use Rattle.image_map.specs.declared.region.Kind.TheVariants as kind
use Rattle.image_map.specs.declared.region.RegionId.TheVariants.{Frame}
use Rattle.image_map.specs.declared.region.Settings.{Settings}
use Rattle.image_map.specs.Regions.{same_region, same_cell}
use Rattle.ia32_types.specs.declared.Operand.{Operand}
use Rattle.ia32_types.specs.declared.Operand.TheVariants as operand
use Rattle.ia32_types.specs.declared.Op.{Op}
use Rattle.ia32_types.specs.declared.Op.TheVariants as op
use Rattle.ia32_types.specs.declared.Instr.{Instr}
use Rattle.ia32_types.specs.Numbers.{reg_number}
use Rattle.ia32_semantics.specs.State.{put}
use Rattle.ia32_semantics.specs.Rows.{next_place}
use Rattle.strided.specs.Interval.{one}
use Rattle.strided.specs.Operations.{only, sub}
use Rattle.alocs.specs.Cells.{Division}
use Rattle.vset.specs.declared.facts.CmpFact.{CmpFact}
use Rattle.vset.specs.declared.facts.CmpPlace.{CmpPlace}
use Rattle.vset.specs.declared.facts.CmpPlace.TheVariants as place
use Rattle.vset.specs.declared.part.Part.{Part}
use Rattle.vset.specs.Values.{Values, Top, Parts}
use Rattle.abs_cmp.specs.Refine.{refine}
use Rattle.call_strings.specs.declared.context.Node.{Node}
use Rattle.call_strings.specs.Nodes.{pushed, same_node}
use Rattle.abs_semantics.specs.declared.parts.Link.{Link}
use Rattle.abs_semantics.specs.States.{AbsState, value_at, rebuilt}
use Rattle.abs_semantics.specs.Accesses.{without_value}
use Rattle.abs_steps.specs.Flags.{may_hold}
use Rattle.abs_steps.specs.Calls.{called, returned}
use Rattle.abs_steps.specs.Views.{View}
use Rattle.abs_steps.specs.Rows.{view_of, post}
use Rattle.abs_steps.specs.Externs.{answered, block_key}
use Rattle.abs_steps.specs.Places.{Content, Extern, Instruction, Nothing, content_at, targets, followed}

-- a node with an abstract state: one of a map, or one that control comes to
pub record Placed : Type 0 where
  pub node : Node
  pub state : AbsState

-- The nodes that an analysis has, in rising order, with their states. A node keeps the sites of the newest `lane` calls.
pub record States : Type 0 where
  pub lane : ℕ
  pub cells : Division
  pub placed : List Placed

abbrev pub at_node : Node → AbsState → Placed
at_node n a = record { node = n; state = a }

-- another address in the same context
abbrev pub moved_to : ℕ → Node → Node
moved_to at n = record n { at = at }

-- -- A branch

abbrev pub has_member : Values → Bool
has_member Top = true
has_member (Parts []) = false
has_member (Parts (x ∷ xs)) = true

abbrev pub place_value : AbsState → CmpPlace → Values
place_value a (place.Reg r) = a.registers (reg_number r)
place_value a (place.Cell c) = value_at a c

-- a state in which the place holds a value; what is known of the comparison stays
abbrev pub with_place_value : AbsState → CmpPlace → Values → AbsState
with_place_value a (place.Reg r) v = record a { registers = put a.registers (reg_number r) v }
with_place_value a (place.Cell c) v =
    record a { cells = rebuilt (λ x. if same_cell x c then v else value_at a x) (without_value c ∷ a.cells) }

abbrev pub narrowed_to : AbsState → CmpPlace → Values → Option AbsState
narrowed_to a place v = if has_member v then Some (with_place_value a place v) else None

-- the state in which a test of a condition may come out so, by what was compared
abbrev pub narrowed : AbsState → ℕ → Bool → Option CmpFact → Option AbsState
narrowed a condition taken None = Some a
narrowed a condition taken (Some f) = narrowed_to a f.place (refine condition taken f.bound (place_value a f.place))

-- none where the flags or the value don't allow it
unfoldable pub side : AbsState → ℕ → Bool → Option AbsState
side a condition taken = if may_hold condition a.flags taken then narrowed a condition taken a.fact else None

abbrev pub if_goes : ℕ → Node → Option AbsState → List Placed
if_goes at n None = []
if_goes at n (Some a) = at_node (moved_to at n) a ∷ []

-- the side that is taken first
abbrev pub branched_to : ℕ → ℕ → Instr → Node → AbsState → List Placed
branched_to condition target i n a = if_goes target n (side a condition true) ++ if_goes (next_place i) n (side a condition false)

unfoldable pub branched : ℕ → Option Operand → Instr → Node → AbsState → List Placed
branched condition (Some (operand.Imm target)) i n a = branched_to condition target i n a
branched condition _ i n a = []

-- -- The stack pointer

abbrev pub offset_in : ℕ → Part → Option ℤ
offset_in p x = if same_region x.region (Frame p) then only x.si else None

-- the one offset in the newest activation of p, where a value is that alone
abbrev pub frame_offset : ℕ → Values → Option ℤ
frame_offset p (Parts (x ∷ [])) = offset_in p x
frame_offset p _ = None

-- the stack pointer at a node of procedure p
abbrev pub stack_offset : ℕ → AbsState → Option ℤ
stack_offset p a = frame_offset p (a.registers 4)

-- -- A jump and a call

abbrev pub jumped : Image → View → Instr → Node → List Placed
jumped image v i n = map (λ t. at_node (moved_to t n) v.state) (followed image v i.dst)

abbrev pub callee_node : ℕ → ℕ → ℕ → Node → Node
callee_node lane site t n = record { context = pushed lane site t n.context; at = t }

-- the return slot lies below the stack pointer
abbrev pub slot_below : ℤ → ℤ
slot_below offset = (sub (one offset) (one (pos 4))).lo

abbrev pub called_each : ℕ → View → Instr → Node → ℤ → List ℕ → List Placed
called_each lane v i n offset ts =
    map (λ t. at_node (callee_node lane i.at t n) (called v.cells v.procedure (slot_below offset) t (next_place i) v.state)) ts

-- the stack pointer isn't above the return slot of the activation
abbrev pub called_at : Image → ℕ → View → Instr → Node → Option ℤ → List Placed
called_at image lane v i n None = []
called_at image lane v i n (Some offset) =
    if int_le offset (pos 0) then called_each lane v i n offset (followed image v i.dst) else []

abbrev pub entered_from : Image → ℕ → View → Instr → Node → List Placed
entered_from image lane v i n = called_at image lane v i n (stack_offset v.procedure v.state)

-- -- A return

-- the operand of a ret: so many bytes more are taken
abbrev pub extra_of : Option Operand → ℕ
extra_of (Some (operand.Imm n)) = n
extra_of _ = 0

abbrev pub is_call : Op → Bool
is_call op.Call = true
is_call _ = false

-- a call from a node may go to a procedure
abbrev pub calls_at : States → Node → AbsState → Content → ℕ → Bool
calls_at s n a (Instruction i) q = is_call i.op && list_any (λ t. t == q) (targets (view_of a s.cells n.context.proc) i.dst)
calls_at s n a _ q = false

abbrev pub place_behind : Content → ℕ
place_behind (Instruction i) = next_place i
place_behind _ = 0

-- A return at a node goes back to the call at another node, by a link between their procedures.
abbrev pub goes_back_to : Image → Settings → States → Node → Link → Placed → Bool
goes_back_to image settings s n l c =
    c.node.context.proc == l.parent
    && (same_node (callee_node s.lane c.node.at n.context.proc c.node) (record n { at = n.context.proc })
    && calls_at s c.node c.state (content_at image settings c.node.at) n.context.proc)

abbrev pub gone_back_to : Image → Settings → AbsState → Placed → Placed
gone_back_to image settings a c = at_node (moved_to (place_behind (content_at image settings c.node.at)) c.node) a

-- a state for each call that a link stands for, the same for all
abbrev pub returned_by : Image → Settings → States → Node → ℕ → AbsState → Link → List Placed
returned_by image settings s n extra a l =
    map (gone_back_to image settings (returned n.context.proc l.parent l.off extra a)) (filter (goes_back_to image settings s n l) s.placed)

-- the links by which the newest activation of a procedure was called
abbrev pub young_links : ℕ → List Link → List Link
young_links q ls = filter (λ (l : Link). l.child == q && not l.aged) ls

abbrev pub returned_each : Image → Settings → States → Node → ℕ → AbsState → List Placed
returned_each image settings s n extra a = flat_map (returned_by image settings s n extra a) (young_links n.context.proc a.links)

abbrev pub is_zero_offset : Option ℤ → Bool
is_zero_offset None = false
is_zero_offset (Some offset) = int_eq offset (pos 0)

-- the stack pointer is that with which the activation began
abbrev pub is_at_slot : ℕ → AbsState → Bool
is_at_slot p a = is_zero_offset (stack_offset p a)

-- by some link, old ones too, the return takes bytes of the caller's caller
abbrev pub takes_too_much : ℕ → ℕ → AbsState → Bool
takes_too_much q extra a = list_any (λ (l : Link). l.child == q && int_lt (pos 0) (l.off.hi +ℤ pos (4 + extra))) a.links

abbrev pub returned_from : Image → Settings → States → Node → ℕ → AbsState → List Placed
returned_from image settings s n extra a =
    if is_at_slot n.context.proc a && not (takes_too_much n.context.proc extra a) then returned_each image settings s n extra a else []

-- -- An extern

-- it returns from the state that it leaves
abbrev pub answered_from : Image → Settings → States → Node → Kind → AbsState → List Placed
answered_from image settings s n k a =
    if is_at_slot n.context.proc a
    then returned_each image settings s n 0 (answered (view_of a s.cells n.context.proc) image (block_key s.lane n) k)
    else []

unfoldable pub extern_successors : Image → Settings → States → Node → Kind → AbsState → List Placed
extern_successors image settings s n kind.Stop a = []
extern_successors image settings s n k a = answered_from image settings s n k a

-- -- All

-- the next instruction, in the same context
abbrev pub next_to : Image → States → Node → Instr → AbsState → List Placed
next_to image s n i a = at_node (moved_to (next_place i) n) (post a i s.cells image n.context.proc) ∷ []

unfoldable pub instruction_successors : Op → Image → Settings → States → Node → Instr → AbsState → List Placed
instruction_successors (op.Jcc c) image settings s n i a = branched c i.dst i n a
instruction_successors op.Jmp image settings s n i a = jumped image (view_of a s.cells n.context.proc) i n
instruction_successors op.Call image settings s n i a = entered_from image s.lane (view_of a s.cells n.context.proc) i n
instruction_successors op.Ret image settings s n i a = returned_from image settings s n (extra_of i.dst) a
instruction_successors op.Hlt image settings s n i a = []
instruction_successors op.Int3 image settings s n i a = []
instruction_successors op.Ud2 image settings s n i a = []
instruction_successors _ image settings s n i a = next_to image s n i a

unfoldable pub successors_by : Content → Image → Settings → States → Node → AbsState → List Placed
successors_by (Extern k) image settings s n a = extern_successors image settings s n k a
successors_by (Instruction i) image settings s n a = instruction_successors i.op image settings s n i a
successors_by Nothing image settings s n a = []

-- The nodes to which control goes from a node with a state, each with its state, in order: of a branch the side that is taken first;
-- targets as they rise; returns by link, and then by the node of the call. Equal nodes stay apart.
unfoldable pub successors : Image → Settings → States → Node → AbsState → List Placed
successors image settings s n a = successors_by (content_at image settings n.at) image settings s n a

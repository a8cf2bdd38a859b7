-- The flow graph of a map from nodes to abstract states. The project's own.
use Rattle.std.specs.Prelude.{ℕ, ◌==◌, ◌&&◌, not, Bool, true, false, List, [], ◌∷◌, map, Option}
use Rattle.std.specs.List.{list_any}
use Rattle.image_map.specs.declared.image.Image.{Image}
use Rattle.image_map.specs.declared.region.Cell.{Cell}
use Rattle.image_map.specs.declared.region.Kind.{Kind}
use Rattle.image_map.specs.declared.region.Kind.TheVariants as kind
use Rattle.image_map.specs.declared.region.Settings.{Settings}
use Rattle.ia32_types.specs.declared.Operand.{Operand}
use Rattle.ia32_types.specs.declared.Op.{Op}
use Rattle.ia32_types.specs.declared.Op.TheVariants as op
use Rattle.call_strings.specs.declared.context.Node.{Node}
use Rattle.call_strings.specs.Nodes.{same_node}
use Rattle.flow_graph.specs.declared.graph.FlowNode.{FlowNode}
use Rattle.abs_steps.specs.Views.{View}
use Rattle.abs_steps.specs.Rows.{view_of}
use Rattle.abs_steps.specs.Places.{Content, Extern, Instruction, Nothing, content_at, is_indirect}
use Rattle.abs_steps.specs.Successors.{Placed, States, successors}
use Rattle.access_facts.specs.Places.{picked, graph_cells}
use Rattle.access_facts.specs.Sets.{may_use, may_def, must_def}

-- -- Branches and ends

unfoldable pub op_branches : Op → Option Operand → Bool
op_branches (op.Jcc c) o = true
op_branches op.Jmp o = is_indirect o
op_branches op.Call o = is_indirect o
op_branches _ o = false

-- a conditional jump, and an indirect jump or call
unfoldable pub is_branch : Content → Bool
is_branch (Instruction i) = op_branches i.op i.dst
is_branch _ = false

abbrev pub is_empty : {A : Type 0} → List A → Bool
is_empty [] = true
is_empty (x ∷ xs) = false

-- a return here may be the last of a run: it is one of the entry, with no call site
abbrev pub may_be_last : Settings → Node → Bool
may_be_last settings n = n.context.proc == settings.entry && is_empty n.context.sites

unfoldable pub op_ends : Op → Settings → Node → Bool
op_ends op.Ret settings n = may_be_last settings n
op_ends op.Hlt settings n = true
op_ends _ settings n = false

-- an extern that returns counts as a return
unfoldable pub extern_ends : Kind → Settings → Node → Bool
extern_ends kind.Stop settings n = true
extern_ends _ settings n = may_be_last settings n

-- a run may be complete after the node
unfoldable pub is_end : Content → Settings → Node → Bool
is_end (Extern k) settings n = extern_ends k settings n
is_end (Instruction i) settings n = op_ends i.op settings n
is_end Nothing settings n = false

-- -- Steps

abbrev pub is_among : List Placed → Placed → Bool
is_among ps q = list_any (λ (p : Placed). same_node p.node q.node) ps

-- the nodes of the map to which control may go
unfoldable pub next_of : Image → Settings → States → Placed → List ℕ
next_of image settings s p = picked (is_among (successors image settings s p.node p.state)) 0 s.placed

-- -- Nodes

abbrev pub node_of : Image → Settings → List Cell → View → Content → Node → List ℕ → FlowNode
node_of image settings cs v content n next =
    record {
      at = n.at;
      next = next;
      may_use = may_use cs v content;
      may_def = may_def image cs v content (not (is_empty next));
      must_def = must_def image cs v content (not (is_empty next));
      branch = is_branch content;
      end = is_end content settings n;
    }

unfoldable pub flow_node : Image → Settings → States → Placed → FlowNode
flow_node image settings s p =
    node_of image settings (graph_cells s) (view_of p.state s.cells p.node.context.proc) (content_at image settings p.node.at) p.node (next_of image settings s p)

-- the nodes in the order of the map
unfoldable pub flow : Image → Settings → States → List FlowNode
flow image settings s = map (flow_node image settings s) s.placed

-- What the sweeps go by: nodes of a program with abstract states, in tables. The project's own.
use Rattle.std.specs.Prelude.{ℕ, ◌&&◌, Bool, true, false, List, map}
use Rattle.image_map.specs.declared.image.Image.{Image}
use Rattle.image_map.specs.declared.region.Kind.TheVariants as kind
use Rattle.image_map.specs.declared.region.Settings.{Settings}
use Rattle.ia32_types.specs.declared.Op.{Op}
use Rattle.ia32_types.specs.declared.Op.TheVariants as op
use Rattle.alocs.specs.Cells.{Division}
use Rattle.call_strings.specs.declared.context.Node.{Node}
use Rattle.call_strings.specs.Nodes.{same_node, node_before}
use Rattle.abs_semantics.specs.Joins.{joined_state, widened_state}
use Rattle.abs_semantics.specs.Below.{state_below}
use Rattle.abs_steps.specs.Places.{Content, Extern, Instruction, Nothing, content_at}
use Rattle.abs_steps.specs.Successors.{Placed, States, at_node, callee_node, successors}
use Rattle.transfer_flow.specs.declared.site.Program.{Program}
use Rattle.sweeps.specs.Meaning.{Meaning}
use Rattle.vsa.specs.Tables.{Table, table_of, state_of}
use Rattle.vsa.specs.Same.{same_table}
use Rattle.vsa.specs.Views.{tables_of}
use Rattle.vsa.specs.Topped.{topped}

-- what stays the same in all sweeps
pub record Analysis : Type 0 where
  pub image : Image
  pub settings : Settings
  pub cells : Division
  pub lane : ℕ

abbrev pub analysis_of : Image → Settings → Division → ℕ → Analysis
analysis_of image settings cells lane = record { image = image; settings = settings; cells = cells; lane = lane }

-- a program as the code divides it
abbrev pub program_of : Program → Analysis
program_of p = analysis_of p.image.now p.settings.now p.cells.now p.lane

-- -- Which nodes a return looks at

abbrev pub is_ret : Op → Bool
is_ret op.Ret = true
is_ret _ = false

abbrev pub returns_by : Content → Bool
returns_by (Extern kind.Stop) = false
returns_by (Extern k) = true
returns_by (Instruction i) = is_ret i.op
returns_by Nothing = false

-- A call at the second node may have led to the activation in which the first one returns.
abbrev pub may_return_to : Analysis → Node → Node → Bool
may_return_to x n c =
    returns_by (content_at x.image x.settings n.at)
    && same_node (callee_node x.lane c.at n.context.proc c) (record n { at = n.context.proc })

-- -- The domain of the sweeps

abbrev pub placed_of : List (Node × Table) → List Placed
placed_of = map (λ e. at_node e.0 (state_of e.1))

-- a map of these nodes alone
abbrev pub states_of : Analysis → List (Node × Table) → States
states_of x others = record { lane = x.lane; cells = x.cells; placed = placed_of others }

abbrev pub successors_in : Analysis → Node → Table → List (Node × Table) → List (Node × Table)
successors_in x n t others = tables_of (successors x.image x.settings (states_of x others) n (state_of t))

abbrev pub meaning_of : Analysis → Meaning Node Table
meaning_of x = record {
  before = node_before;
  address = λ n. n.at;
  concerns = may_return_to x;
  successors = successors_in x;
  join = λ a b. table_of (joined_state (state_of a) (state_of b));
  widen = λ old new. table_of (widened_state (state_of old) (state_of new));
  topped = λ old new. table_of (topped (state_of old) (state_of new));
  below = λ a b. state_below (state_of a) (state_of b);
  same = same_table;
}

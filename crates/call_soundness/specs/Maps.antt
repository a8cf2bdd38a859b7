-- The map that an analysis has made of a program, as the argument on slices asks for it. The project's own.
use Rattle.std.specs.Prelude.{◌≡◌, ◌⊎◌, ℕ, not, Bool, true, false, if◌then◌else◌, List, [], ◌∷◌, Option, Some, None}
use Rattle.image_map.specs.declared.image.Image.{Image}
use Rattle.image_map.specs.declared.region.RegionId.TheVariants.{Heap, OldHeap}
use Rattle.image_map.specs.declared.region.Settings.{Settings}
use Rattle.flow_graph.specs.declared.graph.FlowNode.{FlowNode}
use Rattle.ia32_semantics.specs.CallModel.{IsWhole}
use Rattle.ia32_semantics.specs.State.{State}
use Rattle.call_strings.specs.declared.context.Node.{Node}
use Rattle.call_strings.specs.Nodes.{same_node}
use Rattle.vset.specs.declared.facts.CmpFact.{CmpFact}
use Rattle.vset.specs.declared.facts.CmpPlace.{CmpPlace}
use Rattle.vset.specs.declared.facts.CmpPlace.TheVariants as place
use Rattle.abs_semantics.specs.Touching.{names_one}
use Rattle.abs_semantics.specs.declared.parts.Known.{Known}
use Rattle.abs_semantics.specs.States.{AbsState, HasCanonical, known_of}
use Rattle.abs_semantics.specs.Below.{state_below}
use Rattle.abs_semantics.specs.StandsFor.{StandsFor}
use Rattle.abs_semantics.specs.Start.{initial_state}
use Rattle.abs_steps.specs.declared.warnings.WarnName.{WarnName}
use Rattle.abs_steps.specs.Places.{content_at}
use Rattle.abs_steps.specs.Rows.{view_of}
use Rattle.abs_steps.specs.Successors.{Placed, States, at_node, calls_at, successors}
use Rattle.abs_steps.specs.Warnings.{warnings}
use Rattle.slice_soundness.specs.Maps.{Map}

-- the abstract state at a node, where there is one
abbrev pub state_in : Node → List Placed → Option AbsState
state_in n [] = None
state_in n (x ∷ xs) = if same_node x.node n then Some x.state else state_in n xs

abbrev pub IsListed : {A : Type 0} → A → List A → Type 0
IsListed x [] = ⊥
IsListed x (y ∷ ys) = (y ≡ x) ⊎ IsListed x ys

abbrev pub is_empty : List WarnName → Bool
is_empty [] = true
is_empty (w ∷ ws) = false

-- what can't be followed at a node of the map
abbrev pub warned_by : Image → Settings → States → Node → Option AbsState → Bool
warned_by image settings states n None = false
warned_by image settings states n (Some a) = not (is_empty (warnings (content_at image settings n.at) image (view_of a states.cells n.context.proc)))

-- from a node that has an abstract state control may go to another
pub record LeadsOn (image : Image) (settings : Settings) (states : States) (from to : Node) (next : AbsState) : Type 0 where
  pub state : AbsState
  pub has_state : state_in from states.placed ≡ Some state
  pub listed : IsListed (at_node to next) (successors image settings states from state)

-- the call at a node that has an abstract state may go to a procedure
pub record MayCall (image : Image) (settings : Settings) (states : States) (n : Node) (callee : ℕ) : Type 0 where
  pub state : AbsState
  pub has_state : state_in n states.placed ≡ Some state
  pub calls : calls_at states n state (content_at image settings n.at) callee ≡ true

-- the cells of a graph, and the graph itself
pub record Drawn : Type 0 where
  -- in this state the byte at an address lies in the cell with this place
  pub place_of : State → ℕ → Option ℕ
  pub graph : List FlowNode
  pub number : Node → ℕ

abbrev pub IsPlaceOfOne : CmpPlace → Type 0
IsPlaceOfOne (place.Reg r) = Unit {0}
IsPlaceOfOne (place.Cell c) = names_one c.region ≡ true

-- a comparison of memory is remembered only where a region is one thing: the image, or the newest activation or block
abbrev pub IsOfOne : Option CmpFact → Type 0
IsOfOne None = Unit {0}
IsOfOne (Some f) = IsPlaceOfOne f.place

-- of no block it is known how its base is aligned, since an allocation keeps what is known of regions
abbrev pub IsUnaligned : List Known → Type 0
IsUnaligned ks = (key : ℕ) → (known_of (Heap key) ks ≡ None) × (known_of (OldHeap key) ks ≡ None)

-- the form that the analysis keeps
pub record HasForm (a : AbsState) : Type 0 where
  pub canonical : HasCanonical a
  pub fact : IsOfOne a.fact
  pub unaligned : IsUnaligned a.aligns

abbrev pub map_of : Image → Settings → States → Drawn → Map
map_of image settings states drawn =
    record {
      Abs = AbsState;
      depth = states.lane;
      initial = initial_state image states.cells settings.entry;
      value = λ n. state_in n states.placed;
      is_warned = λ n. warned_by image settings states n (state_in n states.placed);
      IsSuccessor = LeadsOn image settings states;
      IsTarget = MayCall image settings states;
      IsCanonical = HasForm;
      Below = λ a b. state_below a b ≡ true;
      IsWhole = IsWhole image;
      StandsFor = StandsFor states.lane;
      HasCell = λ s byte place. drawn.place_of s byte ≡ Some place;
      graph = drawn.graph;
      number = drawn.number;
    }

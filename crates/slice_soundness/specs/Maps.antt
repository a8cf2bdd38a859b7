-- A map of a program: what an analysis has found out, as far as the argument on slices asks. The project's own.
use Rattle.std.specs.Prelude.{◌≡◌, ℕ, ◌+◌, Bool, List, [], ◌∷◌, Option, Some}
use Rattle.image_map.specs.declared.region.Activation.{Activation}
use Rattle.flow_graph.specs.declared.graph.FlowNode.{FlowNode}
use Rattle.ia32_semantics.specs.State.{State, Location, InRegister, InFlag, AtByte}
use Rattle.call_strings.specs.declared.context.Node.{Node}
use Rattle.slice_soundness.specs.Nodes.{node_at, node_of}

pub record Map : Type 1 where
  -- abstract states
  pub Abs : Type 0
  -- of so many newest calls a node keeps the sites
  pub depth : ℕ
  -- the abstract state of a start
  pub initial : Abs
  -- the abstract state of each node that the map has
  pub value : Node → Option Abs
  -- a warning stands at the node
  pub is_warned : Node → Bool
  -- from the first node control may go to the second, and comes there with an abstract state
  pub IsSuccessor : Node → Node → Abs → Type 0
  -- the call at a node may go to this procedure
  pub IsTarget : Node → ℕ → Type 0
  -- an abstract state of the form that the analysis keeps
  pub IsCanonical : Abs → Type 0
  -- the first abstract state says no less than the second
  pub Below : Abs → Abs → Type 0
  -- all lies as it should in a state
  pub IsWhole : State → Type 0
  pub StandsFor : Abs → State → Type 0
  -- in this state the byte at an address lies in the cell with this place
  pub HasCell : State → ℕ → ℕ → Type 0
  pub graph : List FlowNode
  -- where the graph has the node
  pub number : Node → ℕ

-- the map has the node
abbrev pub IsNode : Map → Node → Type 0
IsNode v n = (a : v.Abs) × (v.value n ≡ Some a)

-- the node of a state in the map, and in its graph
abbrev pub here : Map → State → Node
here v s = node_of v.depth s

abbrev pub number_of : Map → State → ℕ
number_of v s = v.number (here v s)

-- the map has the node, from which a call may go to this procedure
pub record IsHome (v : Map) (n : Node) (procedure : ℕ) : Type 0 where
  pub is_node : IsNode v n
  pub is_target : v.IsTarget n procedure

-- Each call that hasn't returned was made at a node of the map, and to one of its targets.
abbrev pub AreHome : Map → List Activation → Type 0
AreHome v [] = Unit {0}
AreHome v (oldest ∷ []) = Unit {0}
AreHome v (newest ∷ before ∷ others) = IsHome v (node_at v.depth (before ∷ others) newest.site) newest.callee × AreHome v (before ∷ others)

-- The place of a location: registers come first, then flags, and a byte has the place of its cell.
abbrev pub IsPlaceOf : Map → State → Location → ℕ → Type 0
IsPlaceOf v s (InRegister n) place = place ≡ n
IsPlaceOf v s (InFlag n) place = place ≡ n + 8
IsPlaceOf v s (AtByte a) place = v.HasCell s a place

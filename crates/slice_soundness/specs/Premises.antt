-- What the layers below the argument deliver, of one step each: of the machine, of abstract steps, of the check of the map, and
-- of the sets of places of the graph. The project's own.
use Rattle.std.specs.Prelude.{◌≡◌, ◌⊎◌, ℕ, ◌+◌, ◌<◌, ◌≤◌, true, false, List, [], ◌∷◌, ◌++◌, Some, IsTrue}
use Rattle.image_map.specs.declared.region.Activation.{Activation}
use Rattle.flow_graph.specs.FlowGraph.{IsAt, IsStep, IsBranch, IsEnd, MayUse, MayDefine, MustDefine}
use Rattle.ia32_semantics.specs.State.{State, Location, AtByte, is_location}
use Rattle.ia32_semantics.specs.Machine.{Machine}
use Rattle.ia32_semantics.specs.Runs.{OccurrenceOf, stands_at}
use Rattle.call_strings.specs.declared.context.Node.{Node}
use Rattle.call_strings.specs.Nodes.{pushed}
use Rattle.slice_soundness.specs.Nodes.{entry_node, IsRooted}
use Rattle.slice_soundness.specs.Maps.{Map, IsNode, here, number_of, AreHome, IsPlaceOf}

-- -- Of the machine: each field follows from its definition

pub record MachineLaws (m : Machine) : Type 0 where
  pub starts_at : (s : State) → m.IsStart s → s.eip ≡ m.entry
  -- the entry's activation is the one activation
  pub starts_in : (s : State) → m.IsStart s → (first : Activation) × (s.activations ≡ first ∷ []) × (first.callee ≡ m.entry)
  -- an address has one act: bytes spell one instruction, and no extern stands at code
  pub one_act : (o p : OccurrenceOf m) → m.Happens o → m.Happens p → stands_at o ≡ stands_at p → o.act ≡ p.act
  -- a branch isn't the last occurrence of a run
  pub goes_on : (o : OccurrenceOf m) → m.Happens o → m.is_branch o.act ≡ true → m.completes o ≡ false

-- -- States that the map knows

-- The premise of whatever is said of one occurrence.
pub record IsReady (m : Machine) (v : Map) (s : State) : Type 0 where
  pub value : v.Abs
  pub has_value : v.value (here v s) ≡ Some value
  pub canonical : v.IsCanonical value
  pub stands : v.StandsFor value s
  pub whole : v.IsWhole s
  pub quiet : v.is_warned (here v s) ≡ false
  pub homes : AreHome v s.activations
  pub rooted : IsRooted m.entry s.activations

-- the occurrence may come in a run that the map knows so far
pub record Comes (m : Machine) (v : Map) (o : OccurrenceOf m) : Type 0 where
  pub happens : m.Happens o
  pub ready : IsReady m v o.before

-- and isn't the last of it
pub record GoesOn (m : Machine) (v : Map) (o : OccurrenceOf m) : Type 0 where
  pub comes : Comes m v o
  pub not_last : m.completes o ≡ false

-- -- Of abstract steps

-- the second node is a successor of the first, with an abstract state that stands for a state
pub record LeadsTo (v : Map) (from to : Node) (s : State) : Type 0 where
  pub next : v.Abs
  pub is_successor : v.IsSuccessor from to next
  pub stands : v.StandsFor next s

-- The occurrence calls nothing and doesn't return: a successor stands at the new place, in the same context.
pub record Stays (m : Machine) (v : Map) (o : OccurrenceOf m) : Type 0 where
  pub same : o.after.activations ≡ o.before.activations
  pub leads : LeadsTo v (here v o.before) (record (here v o.before) { at = o.after.eip }) o.after

-- The occurrence calls one of the targets of its node: a successor stands at the callee's address, with the site pushed.
pub record Calls (m : Machine) (v : Map) (o : OccurrenceOf m) : Type 0 where
  pub new : Activation
  pub grown : o.after.activations ≡ new ∷ o.before.activations
  pub site : new.site ≡ o.before.eip
  pub callee : new.callee ≡ o.after.eip
  pub target : v.IsTarget (here v o.before) new.callee
  pub leads : LeadsTo v (here v o.before) (record { context = pushed v.depth o.before.eip new.callee (here v o.before).context; at = o.after.eip }) o.after

-- a call node to which a return at a node may go back, where the call was made at this site by this procedure
pub record IsCallNode (v : Map) (returning : Node) (site caller : ℕ) (call : Node) : Type 0 where
  pub is_node : IsNode v call
  pub is_target : v.IsTarget call returning.context.proc
  pub context : pushed v.depth call.at returning.context.proc call.context ≡ returning.context
  pub at : call.at ≡ site
  pub procedure : call.context.proc ≡ caller

-- The occurrence returns to the place after the call of the newest activation: behind each call node to which it may go back
-- there is a successor, all of one abstract state.
pub record Returns (m : Machine) (v : Map) (o : OccurrenceOf m) : Type 0 where
  pub ending : Activation
  pub parent : Activation
  pub older : List Activation
  pub were : o.before.activations ≡ ending ∷ parent ∷ older
  pub are : o.after.activations ≡ parent ∷ older
  pub place : m.IsPlaceAfter ending.site o.after.eip
  pub next : v.Abs
  pub stands : v.StandsFor next o.after
  pub leads : (call : Node) → IsCallNode v (here v o.before) ending.site parent.callee call → v.IsSuccessor (here v o.before) (record call { at = o.after.eip }) next

-- A row says nothing of homes: that they stay, and which call node a return finds, follows.
abbrev pub Row : (m : Machine) → Map → OccurrenceOf m → Type 0
Row m v o = Stays m v o ⊎ (Calls m v o ⊎ Returns m v o)

pub record AbstractSteps (m : Machine) (v : Map) : Type 0 where
  -- the machine: a start is whole
  pub start_whole : (s : State) → m.IsStart s → v.IsWhole s
  -- abstract states: the initial one stands for each start
  pub start_stands : (s : State) → m.IsStart s → v.StandsFor v.initial s
  -- abstract states: what is below stands for no more
  pub below : (a b : v.Abs) (s : State) → v.Below a b → v.IsCanonical b → v.IsWhole s → v.StandsFor a s → v.StandsFor b s
  -- access facts: where no warning stands no return slot is lost
  pub whole : (o : OccurrenceOf m) → GoesOn m v o → v.IsWhole o.after
  -- abstract steps: a successor stands for the state after
  pub row : (o : OccurrenceOf m) → GoesOn m v o → Row m v o

-- -- Of sweeps and their check

-- The map is closed under steps, and no warning stands in it.
pub record IsClean (m : Machine) (v : Map) : Type 0 where
  pub entry : v.Abs
  -- the check: the entry's node is there
  pub entry_is : v.value (entry_node m.entry) ≡ Some entry
  pub entry_below : v.Below v.initial entry
  -- the check: each successor is there, and above what comes to it
  pub closed : (n to : Node) (a next : v.Abs) → v.value n ≡ Some a → v.IsSuccessor n to next → (b : v.Abs) × (v.value to ≡ Some b) × v.Below next b
  -- the check: no warning
  pub quiet : (n : Node) (a : v.Abs) → v.value n ≡ Some a → v.is_warned n ≡ false
  -- sweeps: each value has the form that the analysis keeps
  pub canonical : (n : Node) (a : v.Abs) → v.value n ≡ Some a → v.IsCanonical a

-- What makes the map know each state of each run.
pub record Follows (m : Machine) (v : Map) : Type 0 where
  pub machine : MachineLaws m
  pub steps : AbstractSteps m v
  pub clean : IsClean m v

-- -- Of the graph

-- Nodes, steps, branches and ends of the graph are those of the map.
pub record IsGraphOf (m : Machine) (v : Map) : Type 0 where
  -- access facts: the graph's nodes are the map's, in order
  pub stands : (n : Node) (a : v.Abs) → v.value n ≡ Some a → IsAt v.graph n.at (v.number n)
  -- access facts: a node's successors in the graph are those of the map
  pub steps : (n to : Node) (a b next : v.Abs) → v.value n ≡ Some a → v.IsSuccessor n to next → v.value to ≡ Some b → IsStep v.graph (v.number n) (v.number to)
  -- access facts: the flag says whether the act is a branch
  pub branches : (o : OccurrenceOf m) → Comes m v o → m.is_branch o.act ≡ true → IsBranch v.graph (number_of v o.before)
  -- access facts: an occurrence that completes a run stands at an end
  pub ends : (o : OccurrenceOf m) → Comes m v o → m.completes o ≡ true → IsEnd v.graph (number_of v o.before)

-- -- Of access facts

-- there are eight registers and six flags
abbrev pub IsLocation : Location → Type 0
IsLocation l = IsTrue (is_location false l)

-- What an occurrence reads and writes has its place in the sets of its node.
pub record Covers (m : Machine) (v : Map) : Type 0 where
  -- cells: they come after registers and flags
  pub cells : (s : State) (a place : ℕ) → v.HasCell s a place → 14 ≤ place
  -- Whatever place a location has that is read, the node may use; also where the occurrence completes the run, since it may be the
  -- criterion.
  pub used : (o : OccurrenceOf m) (l : Location) (place : ℕ) → Comes m v o → IsLocation l → m.reads o l ≡ true
      → IsPlaceOf v o.before l place → MayUse v.graph place (number_of v o.before)
  -- What is written and not forgotten has a place in the state after that the node may define.
  pub defined : (o : OccurrenceOf m) (l : Location) → GoesOn m v o → IsLocation l → m.writes o l ≡ true → m.forgets o l ≡ false
      → (place : ℕ) × IsPlaceOf v o.after l place × MayDefine v.graph place (number_of v o.before)
  -- a byte that is neither written nor forgotten keeps its cell
  pub stays : (o : OccurrenceOf m) (a place : ℕ) → GoesOn m v o → m.writes o (AtByte a) ≡ false → m.forgets o (AtByte a) ≡ false
      → v.HasCell o.before a place → v.HasCell o.after a place
  -- What has, in the state after, a place that the node must define is written there, unless it is forgotten.
  pub always : (o : OccurrenceOf m) (l : Location) (place : ℕ) → GoesOn m v o → IsLocation l → m.forgets o l ≡ false
      → IsPlaceOf v o.after l place → MustDefine v.graph place (number_of v o.before) → m.writes o l ≡ true

-- -- Of return slots

-- The occurrence writes no return slot of an activation that was live before it, and forgets one only where it returns from
-- that activation.
pub record KeepsSlots (m : Machine) (o : OccurrenceOf m) : Type 0 where
  pub unwritten : (newer older : List Activation) (live : Activation) (k : ℕ) → o.before.activations ≡ newer ++ live ∷ older → k < 4
      → m.writes o (AtByte (live.base + k)) ≡ false
  pub own : (newer older : List Activation) (live : Activation) (k : ℕ) → o.before.activations ≡ newer ++ live ∷ older → k < 4
      → m.forgets o (AtByte (live.base + k)) ≡ true → (newer ≡ []) × (o.after.activations ≡ older)

-- access facts: where no warning stands return slots are kept, also by an occurrence that completes the run
abbrev pub SlotsAreKept : (m : Machine) → Map → Type 0
SlotsAreKept m v = (o : OccurrenceOf m) → Comes m v o → KeepsSlots m o

-- -- All

-- What makes the graph describe each run.
pub record Describes (m : Machine) (v : Map) : Type 0 where
  pub follows : Follows m v
  pub graph : IsGraphOf m v
  pub covers : Covers m v

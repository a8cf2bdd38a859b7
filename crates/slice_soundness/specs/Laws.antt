-- What follows for each run of a machine from premises on one step each. The project's own.
use Rattle.std.specs.Prelude.{◌≡◌, ◌≢◌, ℕ, suc, ◌-◌, ◌<◌, ◌≤◌, Bool, true, false, List, ◌∷◌, ◌++◌, map, take, drop, slice_get, Some}
use Rattle.image_map.specs.declared.image.Image.{Image}
use Rattle.image_map.specs.declared.region.Activation.{Activation}
use Rattle.image_map.specs.declared.region.Settings.{Settings}
use Rattle.image_map.specs.Whole.{IsImage}
use Rattle.flow_graph.specs.FlowGraph.{IsAt, Walk, Escapes}
use Rattle.control_walks.specs.ControlWalks.{Controls}
use Rattle.ia32_semantics.specs.declared.state.Allocation.{Allocation}
use Rattle.ia32_semantics.specs.State.{State, Location, AtByte}
use Rattle.ia32_semantics.specs.Machine.{Machine}
use Rattle.ia32_semantics.specs.Runs.{OccurrenceOf, stands_at, IsRun, IsComplete}
use Rattle.ia32_semantics.specs.Dependence.{DataDependence, ControlDependence, DirectDependence, Chain, ListsDependences}
use Rattle.call_strings.specs.declared.context.Node.{Node}
use Rattle.ia32_semantics.specs.Ia32.{machine}
use Rattle.slice_soundness.specs.Maps.{Map, IsNode, here, number_of}
use Rattle.slice_soundness.specs.Premises.{MachineLaws, IsReady, GoesOn, IsClean, IsGraphOf, KeepsSlots}
use Rattle.slice_soundness.specs.Located.{Spot, spot_of, MovesBytes}
use Rattle.slice_soundness.specs.Tables.{Table, IsKept, is_closed, is_quiet, IsFlow}
use Rattle.slicer.specs.Slicer.{FlowEdge}
use Rattle.slice_soundness.specs.Arrows.{FlowArrow, ListsSlice}

-- what holds of each occurrence of each run
abbrev pub OfOccurrences : (m : Machine) → (OccurrenceOf m → Type 0) → Type 0
OfOccurrences m P = (run : List (OccurrenceOf m)) → IsRun m run → (k : ℕ) (o : OccurrenceOf m) → slice_get run k ≡ Some o → P o

-- -- States

-- The map knows the state after an occurrence, and its node is a successor.
pub record Onward (m : Machine) (v : Map) (o : OccurrenceOf m) : Type 0 where
  pub ready : IsReady m v o.after
  pub next : v.Abs
  pub is_successor : v.IsSuccessor (here v o.before) (here v o.after) next

pub record KnowsStep (m : Machine) (v : Map) (o : OccurrenceOf m) : Type 0 where
  pub before : IsReady m v o.before
  pub after : m.completes o ≡ false → Onward m v o

-- The value of a state's node stands for the state, at each point of each run until it is complete, and unless an occurrence
-- completes the run the next node is a successor.
pub record KnowsStates (m : Machine) (v : Map) : Type 0 where
  pub starts : (s : State) → m.IsStart s → IsReady m v s
  pub steps : OfOccurrences m (KnowsStep m v)

-- -- Whole states

-- Each state of a run is whole until the run is complete.
abbrev pub StatesAreWhole : (m : Machine) → Map → Type 0
StatesAreWhole m v = OfOccurrences m (λ o. v.IsWhole o.before × (m.completes o ≡ false → v.IsWhole o.after))

-- No return slot is written while its activation lives, and none but the return that ends its activation forgets it.
abbrev pub RunsKeepSlots : Machine → Type 0
RunsKeepSlots m = OfOccurrences m (KeepsSlots m)

-- -- Returns home

-- Where the newest activation ends and the run isn't complete, it goes on at the place after that activation's call.
abbrev pub ReturnsHome : Machine → Type 0
ReturnsHome m =
    OfOccurrences m (λ o.
    m.completes o ≡ false → (ending : Activation) (older : List Activation)
    → o.before.activations ≡ ending ∷ older → o.after.activations ≡ older → m.IsPlaceAfter ending.site o.after.eip)

-- -- Walks

-- Each occurrence stands at a node of the graph.
abbrev pub RunsMeetNodes : (m : Machine) → Map → Type 0
RunsMeetNodes m v = OfOccurrences m (λ o. IsAt v.graph (stands_at o) (number_of v o.before))

-- the occurrences between two
abbrev pub between : {A : Type 0} → List A → ℕ → ℕ → List A
between run i j = take (j - suc i) (drop (suc i) run)

-- the graph's nodes of some occurrences
abbrev pub numbers_of : (m : Machine) → Map → List (OccurrenceOf m) → List ℕ
numbers_of m v occurrences = map (λ o. number_of v o.before) occurrences

-- From an occurrence to a later one the graph is walked by the nodes of those between them.
abbrev pub RunsWalk : (m : Machine) → Map → Type 0
RunsWalk m v =
    (run : List (OccurrenceOf m)) → IsRun m run
    → (i j : ℕ) (earlier later : OccurrenceOf m) → i < j → slice_get run i ≡ Some earlier → slice_get run j ≡ Some later
    → Walk v.graph (number_of v earlier.before) (numbers_of m v (between run i j)) (number_of v later.before)

-- -- Arrows

-- Where an occurrence reads what another wrote last, an edge goes from the one's node to the other's.
abbrev pub DataHasEdges : (m : Machine) → Map → Type 0
DataHasEdges m v =
    (run : List (OccurrenceOf m)) → IsRun m run → (skip_sp : Bool) (location : Location) (j i : ℕ)
    → (d : DataDependence m skip_sp run location j i) → FlowEdge v.graph skip_sp (number_of v d.writer.before) (number_of v d.reader.before)

-- From an occurrence of a complete run, where from it on none stands at an address, an end is reached round that address.
abbrev pub CompleteRunsEscape : (m : Machine) → Map → Type 0
CompleteRunsEscape m v =
    (run : List (OccurrenceOf m)) → IsRun m run → IsComplete m run
    → (i at : ℕ) (o : OccurrenceOf m) → slice_get run i ≡ Some o
    → ((k : ℕ) (p : OccurrenceOf m) → i ≤ k → slice_get run k ≡ Some p → stands_at p ≢ at)
    → Escapes v.graph at (number_of v o.before)

-- Where an occurrence depends on how a branch went, the branch's node controls its node.
abbrev pub BranchesControl : (m : Machine) → Map → Type 0
BranchesControl m v =
    (run : List (OccurrenceOf m)) → IsRun m run → (j i : ℕ)
    → (c : ControlDependence m run j i) → Controls v.graph (number_of v c.branch.before) (number_of v c.later.before)

-- the number of the node of an occurrence, where there is one
pub record StandsAtNumber (m : Machine) (v : Map) (run : List (OccurrenceOf m)) (k number : ℕ) : Type 0 where
  pub occurrence : OccurrenceOf m
  pub is_there : slice_get run k ≡ Some occurrence
  pub number_is : number ≡ number_of v occurrence.before

-- A direct dependence is an arrow between the nodes.
abbrev pub DependencesAreArrows : (m : Machine) → Map → Type 0
DependencesAreArrows m v =
    (run : List (OccurrenceOf m)) → IsRun m run → (skip_sp : Bool) (j i from to : ℕ)
    → DirectDependence m skip_sp run j i → StandsAtNumber m v run i from → StandsAtNumber m v run j to
    → FlowArrow v.graph skip_sp from to

-- A dependence through others is a chain of arrows, back from the one node to the other.
abbrev pub DependencesAreChains : (m : Machine) → Map → Type 0
DependencesAreChains m v =
    (run : List (OccurrenceOf m)) → IsRun m run → (skip_sp : Bool) (j i n : ℕ) (later earlier : OccurrenceOf m)
    → slice_get run j ≡ Some later → slice_get run i ≡ Some earlier
    → Chain (DirectDependence m skip_sp run) n j i
    → Chain (λ to from. FlowArrow v.graph skip_sp from to) n (number_of v later.before) (number_of v earlier.before)

-- -- Dependences are listed

-- The slice of an address lists each dependence of each occurrence at that address, in whatever run.
abbrev pub SlicesListDependences : (m : Machine) → Map → Type 0
SlicesListDependences m v =
    (skip_sp : Bool) (at : ℕ) (addresses : List ℕ) → ListsSlice v.graph skip_sp at addresses → ListsDependences m skip_sp at addresses

-- -- Places

-- Each procedure that runs or has called has a node in the map.
abbrev pub LiveProceduresHaveNodes : (m : Machine) → Map → Type 0
LiveProceduresHaveNodes m v =
    (s : State) → IsReady m v s → (newer : List Activation) (x : Activation) (older : List Activation) → s.activations ≡ newer ++ x ∷ older
    → (n : Node) × IsNode v n × (n.context.proc ≡ x.callee)

-- A byte that an occurrence neither writes nor forgets stays where it lies, across calls, returns and allocations.
abbrev pub UntouchedBytesStay : (m : Machine) → Map → (Allocation → ℕ) → Type 0
UntouchedBytesStay m v key =
    (o : OccurrenceOf m) → GoesOn m v o → MovesBytes m o
    → (a : ℕ) → m.writes o (AtByte a) ≡ false → m.forgets o (AtByte a) ≡ false
    → (spot : Spot) → spot_of key o.before a ≡ Some spot → spot_of key o.after a ≡ Some spot

-- -- Maps that are kept as tables

-- Where the check of a table passes, the map is clean, and the graph of its rows is the map's.
abbrev pub PassedTablesAreClean : (m : Machine) → Map → Type 0
PassedTablesAreClean m v = (t : Table v) → IsKept v t → is_closed v t m.entry ≡ true → is_quiet v t ≡ true → IsClean m v

abbrev pub RowsGiveGraph : (m : Machine) → Map → Type 0
RowsGiveGraph m v = (t : Table v) → IsKept v t → IsFlow m v t → IsGraphOf m v

-- -- The architecture

-- The machine of the 32-bit Intel architecture that runs an image is as the argument asks of a machine.
abbrev pub ArchitectureMeetsLaws : Type 0
ArchitectureMeetsLaws = (image : Image) (settings : Settings) → IsImage image → MachineLaws (machine image settings)

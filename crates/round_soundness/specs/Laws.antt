-- That rounds tell of runs. The laws are the project's own.
use Rattle.std.specs.Prelude.{◌≡◌, ℕ, Bool, List, []}
use Rattle.image_map.specs.declared.image.Image.{Image}
use Rattle.image_map.specs.declared.region.Settings.{Settings}
use Rattle.ia32_semantics.specs.Dependence.{DirectDependence, ListsDependences}
use Rattle.ia32_semantics.specs.Ia32.{machine}
use Rattle.ia32_semantics.specs.Machine.{Occurrence}
use Rattle.ia32_semantics.specs.Runs.{IsRun}
use Rattle.ia32_semantics.specs.Step.{Act}
use Rattle.abs_steps.specs.Successors.{States}
use Rattle.slicer.specs.Slicer.{Arrow, IsSlice}
use Rattle.slice_soundness.specs.Laws.{KnowsStates, StatesAreWhole, RunsKeepSlots, ReturnsHome, StandsAtNumber}
use Rattle.slice_soundness.specs.Premises.{IsClean, Covers, Describes}
use Rattle.vsa.specs.Closed as check
use Rattle.vsa.specs.Warned.{map_warnings}
use Rattle.state_forms.specs.Images.{HasBytes}
use Rattle.graph_soundness.specs.Checks.{is_closed, HaveForms}
use Rattle.graph_soundness.specs.Drawn.{map_drawn}
use Rattle.rounds.specs.declared.round.Round.{Round}
use Rattle.round_soundness.specs.Quiet.{IsQuietRound, map_in, nodes_in, EdgeIn, DependsOn, TellsWay}

-- -- The check

-- The check of a map and the argument on slices mean the same by a map that is closed under its steps.
abbrev pub ChecksAgree : Type 0
ChecksAgree = (image : Image) (settings : Settings) (states : States) → check.is_closed image settings states ≡ is_closed image settings states

-- A map in which the check finds nothing, and whose states have the form that the analysis keeps, is clean.
abbrev pub MapsWithoutWarningsAreClean : Type 0
MapsWithoutWarningsAreClean =
    (image : Image) (settings : Settings) (states : States) (full : Bool) → map_warnings image settings states full ≡ [] → HaveForms states → IsClean (machine image settings) (map_drawn image settings states)

-- -- Rounds without warnings

-- Where what the image has at its addresses are bytes, the graph of a round describes each run. Where a run starts they are.
abbrev pub RoundsDescribeRuns : Type 0
RoundsDescribeRuns = (image : Image) (settings : Settings) (r : Round) → IsQuietRound image settings r → HasBytes image → Describes (machine image settings) (map_in image settings r)

-- The state at the node of each state of a run stands for it, and the next node is a successor.
abbrev pub RoundsKnowStates : Type 0
RoundsKnowStates = (image : Image) (settings : Settings) (r : Round) → IsQuietRound image settings r → KnowsStates (machine image settings) (map_in image settings r)

-- Each state of a run is whole until the run is complete: no return slot is written, and none is forgotten but by its own return.
abbrev pub RoundsKeepStatesWhole : Type 0
RoundsKeepStatesWhole =
    (image : Image) (settings : Settings) (r : Round) → IsQuietRound image settings r → StatesAreWhole (machine image settings) (map_in image settings r) × RunsKeepSlots (machine image settings)

-- Each return that doesn't complete the run goes to the place after its call.
abbrev pub RoundsReturnHome : Type 0
RoundsReturnHome = (image : Image) (settings : Settings) (r : Round) → IsQuietRound image settings r → ReturnsHome (machine image settings)

-- What an occurrence reads and writes has its place in the sets of its node.
abbrev pub RoundsCoverPlaces : Type 0
RoundsCoverPlaces = (image : Image) (settings : Settings) (r : Round) → IsQuietRound image settings r → HasBytes image → Covers (machine image settings) (map_in image settings r)

-- A direct dependence is an arrow of the round: an edge that it lists, or a control.
abbrev pub RoundsHaveArrows : Type 0
RoundsHaveArrows =
    (image : Image) (settings : Settings) (r : Round) → IsQuietRound image settings r → (run : List (Occurrence Act)) → IsRun (machine image settings) run
    → (skip_sp : Bool) (j i from to : ℕ) → DirectDependence (machine image settings) skip_sp run j i
    → StandsAtNumber (machine image settings) (map_in image settings r) run i from → StandsAtNumber (machine image settings) (map_in image settings r) run j to
    → Arrow (EdgeIn r skip_sp) (nodes_in r) from to

-- The slice of an address lists each dependence of each occurrence there, in whatever run.
abbrev pub RoundsListDependences : Type 0
RoundsListDependences =
    (image : Image) (settings : Settings) (r : Round) → IsQuietRound image settings r
    → (skip_sp : Bool) (at : ℕ) (addresses : List ℕ) → IsSlice (EdgeIn r skip_sp) (nodes_in r) at addresses → ListsDependences (machine image settings) skip_sp at addresses

-- Where an occurrence at one address depends on one at another, forward slices, paths and chops tell of it.
abbrev pub RoundsTellWays : Type 0
RoundsTellWays =
    (image : Image) (settings : Settings) (r : Round) → IsQuietRound image settings r → (run : List (Occurrence Act)) → IsRun (machine image settings) run
    → (skip_sp : Bool) (from to j i : ℕ) → DependsOn (machine image settings) skip_sp run from to j i → TellsWay (machine image settings) r skip_sp run from to j i

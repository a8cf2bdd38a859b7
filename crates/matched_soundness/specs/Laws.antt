-- That matched walks tell of runs. The laws are the project's own.
use Rattle.std.specs.Prelude.{◌≢◌, ◌⊎◌, ℕ, Bool, List, Contains, IsTrue}
use Rattle.image_map.specs.declared.image.Image.{Image}
use Rattle.image_map.specs.declared.region.Settings.{Settings}
use Rattle.flow_graph.specs.FlowGraph.{esp_place}
use Rattle.ia32_semantics.specs.Dependence.{DirectDependence, ListsDependences}
use Rattle.ia32_semantics.specs.Ia32.{machine}
use Rattle.ia32_semantics.specs.Machine.{Occurrence}
use Rattle.ia32_semantics.specs.Runs.{IsRun}
use Rattle.ia32_semantics.specs.Step.{Act}
use Rattle.slicer.specs.Slicer.{ListedEdge}
use Rattle.chops.specs.Chops.{AreAddresses}
use Rattle.matched_calls.specs.declared.kinds.StepKinds.{StepKinds}
use Rattle.matched_calls.specs.Matched.{MatchedEdge, MatchedControl}
use Rattle.matched_calls.specs.Slices.{HasMatches, InSliceOver}
use Rattle.slice_soundness.specs.Laws.{StandsAtNumber}
use Rattle.vsa.specs.Views.{told}
use Rattle.access_facts.specs.Kinds.{step_kinds}
use Rattle.rounds.specs.declared.round.Round.{Round}
use Rattle.round_soundness.specs.Quiet.{IsQuietRound, map_in, nodes_in}

-- which steps of a round's graph are calls and returns, and where calls come back
abbrev pub kinds_in : Image → Settings → Round → StepKinds
kinds_in image settings r = step_kinds image settings (told r.states)

-- by some place, with skip_sp another than ESP, a matched edge goes from m to n
abbrev pub MatchedEdgeIn : Image → Settings → Round → Bool → ℕ → ℕ → Type 0
MatchedEdgeIn image settings r skip_sp m n = (place : ℕ) × (IsTrue skip_sp → place ≢ esp_place) × MatchedEdge (nodes_in r) (kinds_in image settings r) place m n

abbrev pub MatchedArrow : Image → Settings → Round → Bool → ℕ → ℕ → Type 0
MatchedArrow image settings r skip_sp m n = MatchedEdgeIn image settings r skip_sp m n ⊎ MatchedControl (nodes_in r) (kinds_in image settings r) m n

-- A direct dependence is a matched arrow of the round.
abbrev pub RoundsHaveMatchedArrows : Type 0
RoundsHaveMatchedArrows =
    (image : Image) (settings : Settings) (r : Round) → IsQuietRound image settings r → (run : List (Occurrence Act)) → IsRun (machine image settings) run
    → (skip_sp : Bool) (j i from to : ℕ) → DirectDependence (machine image settings) skip_sp run j i
    → StandsAtNumber (machine image settings) (map_in image settings r) run i from → StandsAtNumber (machine image settings) (map_in image settings r) run j to
    → MatchedArrow image settings r skip_sp from to

-- The slice over matched edges and control lists each dependence of each occurrence at its address, in whatever run.
abbrev pub MatchedSlicesListDependences : Type 0
MatchedSlicesListDependences =
    (image : Image) (settings : Settings) (r : Round) → IsQuietRound image settings r
    → (ordinary sp control : List (ℕ × ℕ)) → HasMatches (nodes_in r) (kinds_in image settings r) ordinary sp control
    → (skip_sp : Bool) (at : ℕ) (addresses : List ℕ) → AreAddresses (nodes_in r) (InSliceOver (ListedEdge ordinary sp skip_sp) (λ b n. Contains control (b, n)) (nodes_in r) at) addresses
    → ListsDependences (machine image settings) skip_sp at addresses

-- That the graph that access facts give of a map describes it. The laws are the project's own.
use Rattle.std.specs.Prelude.{◌≡◌, ℕ, true, false, pos, ◌-ℤ◌, length, Some}
use Rattle.image_map.specs.declared.image.Image.{Image}
use Rattle.image_map.specs.declared.region.Settings.{Settings}
use Rattle.image_map.specs.CallModel.{AreSettings}
use Rattle.image_map.specs.Whole.{IsImage}
use Rattle.ia32_semantics.specs.Ia32.{machine}
use Rattle.ia32_semantics.specs.Machine.{Occurrence}
use Rattle.ia32_semantics.specs.State.{AtByte}
use Rattle.ia32_semantics.specs.Step.{Act, reads as step_reads, writes as step_writes, forgets as step_forgets}
use Rattle.alocs.specs.Extents.{AreOfImage}
use Rattle.vset.specs.World.{key_of}
use Rattle.abs_steps.specs.Places.{content_at}
use Rattle.abs_steps.specs.Rows.{view_of}
use Rattle.abs_steps.specs.Successors.{States}
use Rattle.slice_soundness.specs.Located.{Spot, spot_of, OfRegion, HasSets, MovesBytes}
use Rattle.slice_soundness.specs.Laws.{SlicesListDependences}
use Rattle.slice_soundness.specs.Maps.{here}
use Rattle.slice_soundness.specs.Premises.{Comes, GoesOn, IsClean, IsGraphOf, Covers, Describes}
use Rattle.call_soundness.specs.Maps.{Drawn, map_of}
use Rattle.state_forms.specs.Images.{HasBytes}
use Rattle.graph_soundness.specs.Checks.{is_closed, is_quiet, HaveForms}
use Rattle.graph_soundness.specs.Cores.{KeepsCores}
use Rattle.graph_soundness.specs.Drawn.{map_drawn, division_of}
use Rattle.graph_soundness.specs.Forms.{AreAllFormed, HaveCells}
use Rattle.graph_soundness.specs.Reached.{MayRead, MayWrite, MustWrite, goes_on_from, accesses_of}

-- Registers and flags that an occurrence reads and writes are in the sets of its node, and those that the node must define are written.
abbrev pub CoresAreCovered : Type 0
CoresAreCovered =
    (image : Image) (settings : Settings) (states : States) (drawn : Drawn) (o : Occurrence Act) → IsImage image
    → (comes : Comes (machine image settings) (map_of image settings states drawn) o) → KeepsCores comes.ready.value (content_at image settings o.before.eip) o

-- Of each byte that an occurrence reads the node may use the place where it lies.
abbrev pub ReadsAreCovered : Type 0
ReadsAreCovered =
    (image : Image) (settings : Settings) (states : States) (drawn : Drawn) (o : Occurrence Act) → IsImage image → AreSettings (length image.externs) settings
    → (comes : Comes (machine image settings) (map_of image settings states drawn) o) → (byte : ℕ) (spot : Spot) → step_reads o (AtByte byte) ≡ true
    → spot_of (key_of states.lane) o.before byte ≡ Some spot
    → MayRead (view_of comes.ready.value states.cells (here (map_of image settings states drawn) o.before).context.proc) (content_at image settings o.before.eip) (OfRegion spot.region (pos byte -ℤ pos spot.base))

-- Nodes, steps, branches and ends of the graph are those of the map.
abbrev pub GraphsAreOfMaps : Type 0
GraphsAreOfMaps = (image : Image) (settings : Settings) (states : States) → IsImage image → IsGraphOf (machine image settings) (map_drawn image settings states)

-- An occurrence leaves the stack where it is and what is allocated; a call takes the bytes below the end of its return slot, and a return
-- or an extern gives up those of the activation that ends.
abbrev pub BytesMove : Type 0
BytesMove =
    (image : Image) (settings : Settings) (states : States) (drawn : Drawn) (o : Occurrence Act) → IsImage image → AreSettings (length image.externs) settings
    → GoesOn (machine image settings) (map_of image settings states drawn) o → MovesBytes (machine image settings) o

-- The graph's sets have the places of whatever the accesses of a node may concern, and none that isn't written as a whole among those that
-- must be defined, where the intervals of the accesses have the one form.
abbrev pub SetsAreOfAccesses : Type 0
SetsAreOfAccesses =
    (image : Image) (settings : Settings) (states : States) → AreAllFormed image settings states
    → HasSets (map_drawn image settings states) (division_of states) (accesses_of image settings states)

-- All intervals of the reaches have the one form of their members, in a map of which each state has the form that the analysis keeps.
abbrev pub ReachesAreFormed : Type 0
ReachesAreFormed =
    (image : Image) (settings : Settings) (states : States) → HasBytes image → AreSettings (length image.externs) settings → HaveForms states → AreAllFormed image settings states

-- Each byte that an occurrence writes and doesn't forget lies, after it, at an offset that the node may define, where the check of the map passes.
abbrev pub WritesAreCovered : Type 0
WritesAreCovered =
    (image : Image) (settings : Settings) (states : States) (o : Occurrence Act) → IsImage image → AreSettings (length image.externs) settings
    → IsClean (machine image settings) (map_drawn image settings states) → (goes : GoesOn (machine image settings) (map_drawn image settings states) o)
    → (byte : ℕ) → step_writes o (AtByte byte) ≡ true → step_forgets o (AtByte byte) ≡ false
    → (spot : Spot) × (spot_of (key_of states.lane) o.after byte ≡ Some spot)
    × MayWrite image (view_of goes.comes.ready.value states.cells (here (map_drawn image settings states) o.before).context.proc) (content_at image settings o.before.eip)
    (goes_on_from image settings states (here (map_drawn image settings states) o.before) goes.comes.ready.value) (OfRegion spot.region (pos byte -ℤ pos spot.base))

-- Each byte that lies, after an occurrence, at an offset that the node must define was written, where the check of the map passes.
abbrev pub SureBytesAreWritten : Type 0
SureBytesAreWritten =
    (image : Image) (settings : Settings) (states : States) (o : Occurrence Act) → IsImage image → AreSettings (length image.externs) settings
    → IsClean (machine image settings) (map_drawn image settings states) → (goes : GoesOn (machine image settings) (map_drawn image settings states) o)
    → (byte : ℕ) (spot : Spot) → spot_of (key_of states.lane) o.after byte ≡ Some spot
    → MustWrite image (view_of goes.comes.ready.value states.cells (here (map_drawn image settings states) o.before).context.proc) (content_at image settings o.before.eip)
    (goes_on_from image settings states (here (map_drawn image settings states) o.before) goes.comes.ready.value) (OfRegion spot.region (pos byte -ℤ pos spot.base))
    → step_writes o (AtByte byte) ≡ true

-- The graph has a cell wherever a byte lies that was written, where the check of the map passes and its cells divide the image.
abbrev pub WrittenBytesHaveCells : Type 0
WrittenBytesHaveCells =
    (image : Image) (settings : Settings) (states : States) → IsImage image → AreSettings (length image.externs) settings → IsClean (machine image settings) (map_drawn image settings states)
    → AreOfImage image.segments states.cells.image → HaveCells image settings states

-- So what an occurrence reads and writes has its place in the sets of its node, where the graph has a cell wherever something is written.
abbrev pub PlacesAreCovered : Type 0
PlacesAreCovered =
    (image : Image) (settings : Settings) (states : States) → IsImage image → AreSettings (length image.externs) settings → IsClean (machine image settings) (map_drawn image settings states)
    → HaveCells image settings states → AreAllFormed image settings states → Covers (machine image settings) (map_drawn image settings states)

-- And the graph describes each run.
abbrev pub GraphsDescribe : Type 0
GraphsDescribe =
    (image : Image) (settings : Settings) (states : States) → IsImage image → AreSettings (length image.externs) settings → IsClean (machine image settings) (map_drawn image settings states)
    → HaveCells image settings states → AreAllFormed image settings states → Describes (machine image settings) (map_drawn image settings states)

-- A slice of it lists each dependence of each run.
abbrev pub SlicesOfGraphsListDependences : Type 0
SlicesOfGraphsListDependences =
    (image : Image) (settings : Settings) (states : States) → IsImage image → AreSettings (length image.externs) settings → IsClean (machine image settings) (map_drawn image settings states)
    → HaveCells image settings states → AreAllFormed image settings states → SlicesListDependences (machine image settings) (map_drawn image settings states)

-- A map that is closed under its steps, in which no warning stands and each state has the form that the analysis keeps, is clean.
abbrev pub ClosedMapsAreClean : Type 0
ClosedMapsAreClean =
    (image : Image) (settings : Settings) (states : States) → is_closed image settings states ≡ true → is_quiet image settings states ≡ true → HaveForms states
    → IsClean (machine image settings) (map_drawn image settings states)

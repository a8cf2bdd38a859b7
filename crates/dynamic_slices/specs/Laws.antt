-- Laws on dynamic slices. The project's own.
use Rattle.std.specs.Prelude.{◌≡◌, ◌⊎◌, ◌↔◌, ℕ, Bool, List}
use Rattle.image_map.specs.declared.image.Image.{Image}
use Rattle.image_map.specs.declared.region.Settings.{Settings}
use Rattle.ia32_semantics.specs.Machine.{Occurrence}
use Rattle.ia32_semantics.specs.Step.{Act}
use Rattle.ia32_semantics.specs.Dependence.{DependsByData}
use Rattle.ia32_semantics.specs.Ia32.{machine}
use Rattle.ia32_run.specs.declared.log.Occurrence.{Occurrence as Told}
use Rattle.ia32_run.specs.Traces.{TellsRun}
use Rattle.dynamic_slices.specs.Slices.{IsLastAt, IsInSlice, IsDynamicSlice, places_of, IsDirect, places_told, IsToldToDepend, DependOnEarlier}

-- An occurrence of a run is in the slice of another exactly where it is that one, or that one depends on it by data.
abbrev pub SlicesAreClosures : Type 0
SlicesAreClosures =
    (image : Image) (settings : Settings) (skip_sp : Bool) (run : List (Occurrence Act)) (last i : ℕ)
    → IsInSlice (IsDirect (machine image settings) skip_sp run) last i ↔ ((i ≡ last) ⊎ DependsByData (machine image settings) skip_sp run last i)

-- What is told of a run has its addresses, depends on what is earlier, and has its slices.
pub record TellsSlices (image : Image) (settings : Settings) (skip_sp : Bool) (run : List (Occurrence Act)) (steps : List Told) : Type 0 where
  pub places : places_told steps ≡ places_of run
  pub earlier : DependOnEarlier skip_sp steps
  pub slices : (last : ℕ) (addresses : List ℕ)
      → IsDynamicSlice (IsToldToDepend skip_sp steps) (places_told steps) last addresses ↔ IsDynamicSlice (IsDirect (machine image settings) skip_sp run) (places_of run) last addresses

abbrev pub ToldSlicesAreDynamic : Type 0
ToldSlicesAreDynamic =
    (image : Image) (settings : Settings) (skip_sp : Bool) (run : List (Occurrence Act)) (steps : List Told)
    → TellsRun image settings run steps → TellsSlices image settings skip_sp run steps

-- A step has one slice, and of the steps at an address one is the last.
abbrev pub SlicesAreOne : Type 0
SlicesAreOne =
    ((skip_sp : Bool) (steps : List Told) (last : ℕ) (one other : List ℕ)
    → IsDynamicSlice (IsToldToDepend skip_sp steps) (places_told steps) last one → IsDynamicSlice (IsToldToDepend skip_sp steps) (places_told steps) last other → one ≡ other)
    × ((places : List ℕ) (at one other : ℕ) → IsLastAt places at one → IsLastAt places at other → one ≡ other)

-- Which occurrence of a run wrote a location last, told by going over the run, and on which occurrences another depends by that.
-- The project's own.
use Rattle.std.specs.Prelude.{◌≡◌, ℕ, ◌+◌, Bool, true, ◌&&◌, if◌then◌else◌, List, [], ◌∷◌, take, slice_get, Option, Some, None, ◌↔◌}
use Rattle.image_map.specs.declared.image.Image.{Image}
use Rattle.image_map.specs.declared.region.Settings.{Settings}
use Rattle.ia32_semantics.specs.State.{Location, is_location}
use Rattle.ia32_semantics.specs.Machine.{Occurrence}
use Rattle.ia32_semantics.specs.Step.{Act, reads, writes, forgets}
use Rattle.ia32_semantics.specs.Dependence.{DataDependence}
use Rattle.ia32_semantics.specs.Ia32.{machine}

-- the writer of a location after occurrence k, with the one before it
abbrev pub next_writer : ℕ → Option ℕ → Occurrence Act → Location → Option ℕ
next_writer k before o l = if forgets o l then None else (if writes o l then Some k else before)

-- the same after some occurrences, of which the first is number k
abbrev pub writer_after : ℕ → Option ℕ → List (Occurrence Act) → Location → Option ℕ
writer_after k before [] l = before
writer_after k before (o ∷ rest) l = writer_after (k + 1) (next_writer k before o l) rest l

-- the occurrence of a run that wrote a location last, where none has forgotten it since
abbrev pub last_writer : List (Occurrence Act) → Location → Option ℕ
last_writer run l = writer_after 0 None run l

-- an occurrence behind those of a run reads what occurrence i of it wrote last
abbrev pub ReadsFrom : Bool → List (Occurrence Act) → Occurrence Act → ℕ → Type 0
ReadsFrom skip_sp run o i = (l : Location) × ((is_location skip_sp l && reads o l) ≡ true) × (last_writer run l ≡ Some i)

-- The steps from which an occurrence of a run reads, told of those before it, are those on which it depends directly by data.
abbrev pub SourcesAreDependences : Type 0
SourcesAreDependences =
    (image : Image) (settings : Settings) (skip_sp : Bool) (run : List (Occurrence Act)) (j i : ℕ) (o : Occurrence Act)
    → slice_get run j ≡ Some o
    → ((l : Location) × DataDependence (machine image settings) skip_sp run l j i) ↔ ReadsFrom skip_sp (take j run) o i

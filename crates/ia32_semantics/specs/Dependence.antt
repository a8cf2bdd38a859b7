-- Which occurrences of a run depend on which, after dynamic slices: by last writer, and by the branches that decide whether an
-- occurrence comes at all. The project's own.
use Rattle.std.specs.Prelude.{◌≡◌, ◌≢◌, ◌⊎◌, ℕ, zero, suc, ◌<◌, ◌&&◌, Bool, true, List, slice_get, Some, Contains, IsTrue}
use Rattle.ia32_semantics.specs.State.{Location, is_location, pending}
use Rattle.ia32_semantics.specs.Machine.{Machine}
use Rattle.ia32_semantics.specs.Runs.{OccurrenceOf, stands_at, IsRun, IsComplete}

abbrev pub Reads : (m : Machine) → Bool → OccurrenceOf m → Location → Type 0
Reads m skip_sp o location = IsTrue (is_location skip_sp location && m.reads o location)

abbrev pub Writes : (m : Machine) → Bool → OccurrenceOf m → Location → Type 0
Writes m skip_sp o location = IsTrue (is_location skip_sp location && m.writes o location)

abbrev pub Forgets : (m : Machine) → OccurrenceOf m → Location → Type 0
Forgets m o location = IsTrue (m.forgets o location)

-- Occurrence j reads what occurrence i wrote last: none between them wrote the location, and none from i on forgot it.
pub record DataDependence (m : Machine) (skip_sp : Bool) (run : List (OccurrenceOf m)) (location : Location) (j i : ℕ) : Type 0 where
  pub earlier : i < j
  pub reader : OccurrenceOf m
  pub writer : OccurrenceOf m
  pub reader_is : slice_get run j ≡ Some reader
  pub writer_is : slice_get run i ≡ Some writer
  pub reads : Reads m skip_sp reader location
  pub writes : Writes m skip_sp writer location
  pub kept : ¬ Forgets m writer location
  pub last : (k : ℕ) (o : OccurrenceOf m) → i < k → k < j → slice_get run k ≡ Some o → (¬ Writes m skip_sp o location) × (¬ Forgets m o location)

-- At occurrence i control went one way, and in some complete run, from the same place with the same calls pending, it went
-- another way and never came to where occurrence j stands.
pub record ControlDependence (m : Machine) (run : List (OccurrenceOf m)) (j i : ℕ) : Type 0 where
  pub earlier : i < j
  pub later : OccurrenceOf m
  pub branch : OccurrenceOf m
  pub later_is : slice_get run j ≡ Some later
  pub branch_is : slice_get run i ≡ Some branch
  pub branches : m.is_branch branch.act ≡ true
  pub other_run : List (OccurrenceOf m)
  pub other_is_run : IsRun m other_run
  pub other_is_complete : IsComplete m other_run
  pub other : ℕ
  pub other_branch : OccurrenceOf m
  pub other_is : slice_get other_run other ≡ Some other_branch
  pub same_place : stands_at other_branch ≡ stands_at branch
  pub same_calls : pending other_branch.before.activations ≡ pending branch.before.activations
  pub other_way : other_branch.after.eip ≢ branch.after.eip
  pub avoids : (k : ℕ) (o : OccurrenceOf m) → other < k → slice_get other_run k ≡ Some o → stands_at o ≢ stands_at later

abbrev pub DirectDependence : (m : Machine) → Bool → List (OccurrenceOf m) → ℕ → ℕ → Type 0
DirectDependence m skip_sp run j i = ((location : Location) × DataDependence m skip_sp run location j i) ⊎ ControlDependence m run j i

-- a chain of n + 1 dependences from j to i
abbrev pub Chain : (ℕ → ℕ → Type 0) → ℕ → ℕ → ℕ → Type 0
Chain Direct zero j i = Direct j i
Chain Direct (suc n) j i = (k : ℕ) × Direct j k × Chain Direct n k i

-- occurrence j depends on occurrence i, directly or through others of the run
abbrev pub Depends : (m : Machine) → Bool → List (OccurrenceOf m) → ℕ → ℕ → Type 0
Depends m skip_sp run j i = (n : ℕ) × Chain (DirectDependence m skip_sp run) n j i

-- the same by data alone
abbrev pub DependsByData : (m : Machine) → Bool → List (OccurrenceOf m) → ℕ → ℕ → Type 0
DependsByData m skip_sp run j i = (n : ℕ) × Chain (λ k l. (location : Location) × DataDependence m skip_sp run location k l) n j i

-- The list has the address of every occurrence on which an occurrence at this address depends, in whatever run.
abbrev pub ListsDependences : Machine → Bool → ℕ → List ℕ → Type 0
ListsDependences m skip_sp at addresses =
    (run : List (OccurrenceOf m)) → IsRun m run
    → (j i : ℕ) (criterion source : OccurrenceOf m)
    → slice_get run j ≡ Some criterion → stands_at criterion ≡ at → slice_get run i ≡ Some source
    → Depends m skip_sp run j i
    → Contains addresses (stands_at source)

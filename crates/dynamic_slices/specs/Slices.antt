-- Dynamic slices: the steps on which one depends, directly or through others, and that one itself. The project's own, after Korel
-- and Laski.
use Rattle.std.specs.Prelude.{◌≡◌, ◌≢◌, ◌↔◌, ℕ, ◌<◌, Bool, true, false, List, map, slice_get, Some, Contains}
use Rattle.std.specs.List.Sorted.{IsStrictlyIncreasing}
use Rattle.flow_graph.specs.Marked.{Marked}
use Rattle.ia32_semantics.specs.State.{Location}
use Rattle.ia32_semantics.specs.Machine.{Machine, Occurrence}
use Rattle.ia32_semantics.specs.Runs.{OccurrenceOf, stands_at}
use Rattle.ia32_semantics.specs.Dependence.{DataDependence}
use Rattle.ia32_run.specs.declared.log.Occurrence.{Occurrence as Told}

-- -- Of steps at these addresses, each of which depends directly on others

-- none of them stands at an address
abbrev pub IsNeverAt : List ℕ → ℕ → Type 0
IsNeverAt places at = (k : ℕ) → slice_get places k ≢ Some at

-- step `last` stands at an address, and no later one does
pub record IsLastAt (places : List ℕ) (at last : ℕ) : Type 0 where
  pub stands : slice_get places last ≡ Some at
  pub later : (k : ℕ) → last < k → slice_get places k ≢ Some at

-- the least set of steps that has `last` and, with a step, each on which it depends directly
abbrev pub IsInSlice : (ℕ → ℕ → Type 0) → ℕ → ℕ → Type 0
IsInSlice Direct last i = Marked (λ n. n ≡ last) Direct i

-- these are the addresses of the steps of that set, rising, each once
pub record IsDynamicSlice (Direct : ℕ → ℕ → Type 0) (places : List ℕ) (last : ℕ) (addresses : List ℕ) : Type 0 where
  pub rising : IsStrictlyIncreasing addresses
  pub listed : (a : ℕ) → Contains addresses a ↔ ((i : ℕ) × (slice_get places i ≡ Some a) × IsInSlice Direct last i)

-- -- Of a run

abbrev pub places_of : {Act : Type 0} → List (Occurrence Act) → List ℕ
places_of run = map stands_at run

-- occurrence j depends on occurrence i directly by data
abbrev pub IsDirect : (m : Machine) → Bool → List (OccurrenceOf m) → ℕ → ℕ → Type 0
IsDirect m skip_sp run j i = (location : Location) × DataDependence m skip_sp run location j i

-- -- As a log tells them

abbrev pub depends_of : Bool → Told → List ℕ
depends_of true step = step.depends_skip
depends_of false step = step.depends

abbrev pub places_told : List Told → List ℕ
places_told steps = map (λ (t : Told). t.at) steps

-- step j is told to depend directly on step i
abbrev pub IsToldToDepend : Bool → List Told → ℕ → ℕ → Type 0
IsToldToDepend skip_sp steps j i = (told : Told) × (slice_get steps j ≡ Some told) × Contains (depends_of skip_sp told) i

-- each step is told to depend on earlier ones alone
abbrev pub DependOnEarlier : Bool → List Told → Type 0
DependOnEarlier skip_sp steps = (j i : ℕ) → IsToldToDepend skip_sp steps j i → i < j

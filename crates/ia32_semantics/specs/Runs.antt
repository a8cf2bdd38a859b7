-- Runs of a machine. The project's own.
use Rattle.std.specs.Prelude.{◌≡◌, ℕ, true, List, [], ◌∷◌, take, slice_get, Some}
use Rattle.ia32_semantics.specs.State.{State}
use Rattle.ia32_semantics.specs.Machine.{Machine, Occurrence}

abbrev pub OccurrenceOf : Machine → Type 0
OccurrenceOf m = Occurrence m.Act

-- the address at which an occurrence stands
abbrev pub stands_at : {Act : Type 0} → Occurrence Act → ℕ
stands_at o = o.before.eip

-- From this state the machine may make these steps, one after another. After a step that completes the run there is none, and
-- a fault is no step.
abbrev pub Goes : (m : Machine) → State → List (OccurrenceOf m) → Type 0
Goes m s [] = Unit {0}
Goes m s (o ∷ rest) = (o.before ≡ s) × m.Happens o × (m.completes o ≡ true → rest ≡ []) × Goes m o.after rest

-- a run from the entry
pub record IsRun (m : Machine) (run : List (OccurrenceOf m)) : Type 0 where
  pub start : State
  pub starts : m.IsStart start
  pub goes : Goes m start run

-- each beginning of a run is a run
abbrev pub BeginningsAreRuns : Machine → Type 0
BeginningsAreRuns m = (run : List (OccurrenceOf m)) (n : ℕ) → IsRun m run → IsRun m (take n run)

-- an occurrence completes the run, and so is its last
pub record IsComplete (m : Machine) (run : List (OccurrenceOf m)) : Type 0 where
  pub last : ℕ
  pub occurrence : OccurrenceOf m
  pub is_there : slice_get run last ≡ Some occurrence
  pub completes : m.completes occurrence ≡ true

-- That the machine has runs, and that something depends on something in them. The laws are the project's own.
use Rattle.std.specs.Prelude.{◌≡◌, ℕ, ◌+◌, ◌<◌, true, List, [], ◌∷◌, map}
use Rattle.image_map.specs.Whole.{IsImage}
use Rattle.ia32_semantics.specs.State.{Location, InRegister, InFlag, AtByte}
use Rattle.ia32_semantics.specs.Machine.{Occurrence}
use Rattle.ia32_semantics.specs.Runs.{stands_at, IsRun, IsComplete}
use Rattle.ia32_semantics.specs.Dependence.{DataDependence, ControlDependence}
use Rattle.ia32_semantics.specs.Step.{Act}
use Rattle.ia32_semantics.specs.Ia32.{machine}
use Rattle.run_examples.specs.Example.{image, settings}

-- occurrence j of a run of the example reads what occurrence i wrote last, ESP left out
abbrev pub DependsByData : List (Occurrence Act) → Location → ℕ → ℕ → Type 0
DependsByData run = DataDependence (machine image settings) true run

-- A complete run, which goes through the loop twice, and on what its occurrences depend.
pub record HasDependences : Type 0 where
  pub run : List (Occurrence Act)
  pub is_run : IsRun (machine image settings) run
  pub is_complete : IsComplete (machine image settings) run
  pub stands : map stands_at run
      ≡ 0x08049000 ∷ 0xF0000000 ∷ 0x08049005 ∷ 0x08049006 ∷ 0x0804900D ∷ 0x0804900E ∷ 0x0804900D ∷ 0x0804900E ∷ 0x08049010 ∷ 0x0804900B ∷ 0x0804900C ∷ []
  -- what is pushed is the number that the extern left
  pub of_extern : DependsByData run (InRegister 0) 2 1
  -- the second count is made from the first one
  pub of_loop : DependsByData run (InRegister 0) 6 4
  -- the branch goes by a flag of the count
  pub of_flag : DependsByData run (InFlag 2) 7 6
  -- what is popped behind the call was pushed before it, into the word below the entry's return slot
  pub of_memory : (k : ℕ) → k < 4 → DependsByData run (AtByte (0xBFF00008 + k)) 9 2
  -- there is a second count because of the branch behind the first one
  pub of_branch : ControlDependence (machine image settings) run 6 5

-- The example is an image, and there is such a run.
pub record AreRuns : Type 0 where
  pub is_image : IsImage image
  pub dependences : HasDependences

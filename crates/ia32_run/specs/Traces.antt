-- A run of a program with given words of choice, how it ends, and what is told of it. The project's own.
use Rattle.std.specs.Prelude.{◌≡◌, ◌⊎◌, ◌↔◌, ℕ, ◌+◌, ◌-◌, ◌≤◌, ◌&&◌, Bool, true, false, if◌then◌else◌, List, [], ◌∷◌, drop, length, slice_get, slice_index, Some, None, Contains}
use Rattle.std.specs.List.Sorted.{IsStrictlyIncreasing}
use Rattle.image_map.specs.declared.image.Image.{Image}
use Rattle.image_map.specs.declared.region.Kind.{Kind}
use Rattle.image_map.specs.declared.region.Kind.TheVariants as kind
use Rattle.image_map.specs.declared.region.Settings.{Settings}
use Rattle.ia32_types.specs.declared.Op.{Op}
use Rattle.ia32_types.specs.declared.Op.TheVariants as op
use Rattle.ia32_semantics.specs.State.{State, Location, AtByte}
use Rattle.ia32_semantics.specs.Machine.{Occurrence}
use Rattle.ia32_semantics.specs.Outcome.{is_in_stack, is_below}
use Rattle.ia32_semantics.specs.Runs.{stands_at, IsRun}
use Rattle.ia32_semantics.specs.Dependence.{DataDependence}
use Rattle.ia32_semantics.specs.Step.{Act, Executes, Answers, completes, reads, writes, forgets}
use Rattle.ia32_semantics.specs.Ia32.{machine}
use Rattle.ia32_machine.specs.Machines.{start_state}
use Rattle.ia32_machine.specs.Touches.{IsTouched}
use Rattle.ia32_run.specs.declared.log.Occurrence.{Occurrence as Told}
use Rattle.ia32_run.specs.declared.log.RunLog.{RunLog}
use Rattle.ia32_run.specs.declared.log.Finish.{Finish}
use Rattle.ia32_run.specs.declared.log.Finish.TheVariants as finish
use Rattle.ia32_run.specs.declared.log.Made.{Made}
use Rattle.ia32_run.specs.Choices.{Makes}
use Rattle.ia32_run.specs.Writers.{ListsSources}

-- -- How a run goes and ends

-- how it ends at a step that completes it
abbrev pub operation_finish : Op → Finish
operation_finish op.Hlt = finish.Halt
operation_finish _ = finish.Return

abbrev pub kind_finish : Kind → Finish
kind_finish kind.Stop = finish.Stop
kind_finish _ = finish.Return

abbrev pub finish_of : Act → Finish
finish_of (Executes i) = operation_finish i.op
finish_of (Answers at k) = kind_finish k

-- No step can be made from a state with the first of some words, and these are enough for any step: none takes more than 8.
abbrev pub NoStep : Image → Settings → State → List ℕ → Type 0
NoStep image settings s words = (8 ≤ length words) × ((left : List ℕ) (o : Occurrence Act) → o.before ≡ s → ¬ Makes image settings words left o)

-- From a state with some words the run makes these steps, one after another and at most so many, and ends so: a step completes
-- it, or it has as many steps as it may have, or no further step can be made.
abbrev pub Goes : Image → Settings → ℕ → State → List ℕ → List (Occurrence Act) → Finish → Type 0
Goes image settings most s words [] end = ((most ≡ 0) × (end ≡ finish.Limit)) ⊎ ((1 ≤ most) × (end ≡ finish.Fault) × NoStep image settings s words)
Goes image settings most s words (o ∷ rest) end =
    (1 ≤ most) × (o.before ≡ s) × (left : List ℕ) × Makes image settings words left o
    × (((completes o ≡ true) × (rest ≡ []) × (end ≡ finish_of o.act)) ⊎ ((completes o ≡ false) × Goes image settings (most - 1) o.after left rest end))

-- -- What is told of it

-- these steps, rising, are those on which a step of a run depends directly by data
pub record ListsDirect (image : Image) (settings : Settings) (skip_sp : Bool) (run : List (Occurrence Act)) (j : ℕ) (steps : List ℕ) : Type 0 where
  pub rising : IsStrictlyIncreasing steps
  pub all : (i : ℕ) → Contains steps i ↔ ((l : Location) × DataDependence (machine image settings) skip_sp run l j i)

-- where a step of a run stands, and on which it depends, with and without ESP
pub record TellsStep (image : Image) (settings : Settings) (run : List (Occurrence Act)) (j : ℕ) (o : Occurrence Act) (told : Told) : Type 0 where
  pub at : told.at ≡ stands_at o
  pub depends : ListsDirect image settings false run j told.depends
  pub depends_skip : ListsDirect image settings true run j told.depends_skip

-- each step of a run is told in its place
pub record TellsRun (image : Image) (settings : Settings) (run : List (Occurrence Act)) (steps : List Told) : Type 0 where
  pub long : length steps ≡ length run
  pub each : (j : ℕ) (o : Occurrence Act) (told : Told) → slice_get run j ≡ Some o → slice_get steps j ≡ Some told → TellsStep image settings run j o told

-- eight words from one on
abbrev pub eight_words : List ℕ → ℕ → List ℕ
eight_words words n =
    slice_index words n ∷ slice_index words (n + 1) ∷ slice_index words (n + 2) ∷ slice_index words (n + 3)
    ∷ slice_index words (n + 4) ∷ slice_index words (n + 5) ∷ slice_index words (n + 6) ∷ slice_index words (n + 7) ∷ []

-- A run of at most so many steps, whose start and steps take these words, one after another; and what is told of it.
pub record IsTrace (image : Image) (settings : Settings) (words : List ℕ) (most : ℕ) (log : RunLog) : Type 0 where
  pub run : List (Occurrence Act)
  pub goes : Goes image settings most (start_state image settings words) (drop 12 words) run log.finish
  pub tells : TellsRun image settings run log.steps

-- such a run is one of the machine
abbrev pub TracesAreRuns : Type 0
TracesAreRuns = (image : Image) (settings : Settings) (most : ℕ) (words : List ℕ) (run : List (Occurrence Act)) (s : State) (end : Finish)
    → (machine image settings).IsStart s → Goes image settings most s words run end → IsRun (machine image settings) run

-- -- What the code knows of a step

-- what is told of an occurrence behind those of a run
pub record TellsSources (run : List (Occurrence Act)) (o : Occurrence Act) (told : Told) : Type 0 where
  pub at : told.at ≡ stands_at o
  pub depends : ListsSources false run o told.depends
  pub depends_skip : ListsSources true run o told.depends_skip

-- A step of a run is made with the first of some words, and the others are left; and what is told of it.
pub record IsMade (image : Image) (settings : Settings) (words left : List ℕ) (made : Made) (before after : State) : Type 0 where
  pub o : Occurrence Act
  pub before_is : o.before ≡ before
  pub after_is : o.after ≡ after
  pub makes : Makes image settings words left o
  pub at : made.at ≡ before.eip
  pub reads : IsTouched made.out.reads (reads o)
  pub writes : IsTouched made.out.writes (writes o)
  pub forgets : (a : ℕ) → forgets o (AtByte a) ≡ (is_in_stack before.slot a && is_below made.out.forgets a)
  pub finish : made.finish ≡ (if completes o then Some (finish_of o.act) else None)

-- The run that a file tells. The project's own.
use Rattle.std.specs.Prelude.{◌≡◌, ◌⊎◌, ℕ, ◌-◌, ◌≤◌, true, false, List, [], ◌∷◌, take, Option, Some, None}
use Rattle.surf_base.specs.Sink.{lines_of}
use Rattle.image_map.specs.declared.image.Image.{Image}
use Rattle.image_map.specs.declared.region.Settings.{Settings}
use Rattle.ia32_semantics.specs.State.{State}
use Rattle.ia32_semantics.specs.Machine.{Occurrence}
use Rattle.ia32_semantics.specs.Step.{Act, completes}
use Rattle.ia32_machine.specs.Machines.{start_state}
use Rattle.ia32_run.specs.declared.log.RunLog.{RunLog}
use Rattle.ia32_run.specs.declared.log.Finish.{Finish}
use Rattle.ia32_run.specs.declared.log.Finish.TheVariants as finish
use Rattle.ia32_run.specs.Choices.{Makes}
use Rattle.ia32_run.specs.Traces.{finish_of, TellsRun}
use Rattle.replay.specs.Lines.{IsStartLine, IsStepLine}

-- how a run ended, and that it has reached its limit where no step completed it
abbrev pub finish_or_limit : Option Finish → Finish
finish_or_limit None = finish.Limit
finish_or_limit (Some end) = end

-- the line tells a step of the machine: its address, and just the words that it takes
pub record TellsStep (image : Image) (settings : Settings) (line : List ℕ) (o : Occurrence Act) : Type 0 where
  pub words : List ℕ
  pub form : IsStepLine line o.before.eip words
  pub makes : Makes image settings words [] o

-- From a state the machine makes these steps, each by its line. After a step that completes the run there is no line, and a run that
-- no step completes has reached its limit.
abbrev pub Goes : Image → Settings → State → List (List ℕ) → List (Occurrence Act) → Finish → Type 0
Goes image settings s [] run end = (run ≡ []) × (end ≡ finish.Limit)
Goes image settings s (line ∷ lines) [] end = ⊥
Goes image settings s (line ∷ lines) (o ∷ rest) end =
    (o.before ≡ s) × TellsStep image settings line o
    × (((completes o ≡ true) × (lines ≡ []) × (rest ≡ []) × (end ≡ finish_of o.act)) ⊎ ((completes o ≡ false) × Goes image settings o.after lines rest end))

-- the lines tell this run, which ends so
pub record Replays (image : Image) (settings : Settings) (lines : List (List ℕ)) (run : List (Occurrence Act)) (end : Finish) : Type 0 where
  pub first : List ℕ
  pub others : List (List ℕ)
  pub lines_are : lines ≡ first ∷ others
  pub words : List ℕ
  pub form : IsStartLine first words
  pub goes : Goes image settings (start_state image settings words) others run end

-- the lines tell a run
abbrev pub TellRun : Image → Settings → List (List ℕ) → Type 0
TellRun image settings lines = (run : List (Occurrence Act)) × (end : Finish) × Replays image settings lines run end

-- the log is that of the run that a file tells
pub record IsReplay (image : Image) (settings : Settings) (bytes : List ℕ) (log : RunLog) : Type 0 where
  pub run : List (Occurrence Act)
  pub replays : Replays image settings (lines_of bytes) run log.finish
  pub tells : TellsRun image settings run log.steps

-- The first line that fails has this number, counted from 1: the lines before it tell a run, and with it they don't. Where there is no
-- line, it is line 1.
pub record FailsAt (image : Image) (settings : Settings) (lines : List (List ℕ)) (number : ℕ) : Type 0 where
  pub some : 1 ≤ number
  pub before : (number ≡ 1) ⊎ TellRun image settings (take (number - 1) lines)
  pub fails : ¬ TellRun image settings (take number lines)

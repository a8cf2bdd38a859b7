-- Laws on runs that files tell. The project's own.
use Rattle.std.specs.Prelude.{ℕ, List}
use Rattle.image_map.specs.declared.image.Image.{Image}
use Rattle.image_map.specs.declared.region.Settings.{Settings}
use Rattle.ia32_semantics.specs.State.{State}
use Rattle.ia32_semantics.specs.Machine.{Occurrence}
use Rattle.ia32_semantics.specs.Runs.{IsRun}
use Rattle.ia32_semantics.specs.Step.{Act}
use Rattle.ia32_semantics.specs.Ia32.{machine}
use Rattle.ia32_run.specs.declared.log.Finish.{Finish}
use Rattle.replay.specs.Replayed.{Goes, TellRun, FailsAt}

-- What lines tell from a start is a run of the machine.
abbrev pub ReplaysAreRuns : Type 0
ReplaysAreRuns = (image : Image) (settings : Settings) (lines : List (List ℕ)) (run : List (Occurrence Act)) (s : State) (end : Finish)
    → (machine image settings).IsStart s → Goes image settings s lines run end → IsRun (machine image settings) run

-- Where a line fails, the lines tell no run.
abbrev pub FailuresTellNoRun : Type 0
FailuresTellNoRun = (image : Image) (settings : Settings) (lines : List (List ℕ)) (number : ℕ) → FailsAt image settings lines number → ¬ TellRun image settings lines

-- What the code knows of a step that a line tells.
use Rattle.std.specs.Prelude.{◌≡◌, ℕ, ◌&&◌, List, Some, None, if◌then◌else◌}
use Rattle.image_map.specs.declared.image.Image.{Image}
use Rattle.image_map.specs.declared.region.Settings.{Settings}
use Rattle.ia32_semantics.specs.State.{State, AtByte}
use Rattle.ia32_semantics.specs.Machine.{Occurrence}
use Rattle.ia32_semantics.specs.Outcome.{is_in_stack, is_below}
use Rattle.ia32_semantics.specs.Step.{Act, completes, reads, writes, forgets}
use Rattle.ia32_machine.specs.Touches.{IsTouched}
use Rattle.ia32_run.specs.declared.log.Made.{Made}
use Rattle.ia32_run.specs.Traces.{finish_of}
use Rattle.replay.specs.Replayed.{TellsStep}

-- the step that the line tells was made, and this is told of it
pub record IsMadeBy (image : Image) (settings : Settings) (line : List ℕ) (made : Made) (before after : State) : Type 0 where
  pub o : Occurrence Act
  pub before_is : o.before ≡ before
  pub after_is : o.after ≡ after
  pub tells : TellsStep image settings line o
  pub at : made.at ≡ before.eip
  pub reads : IsTouched made.out.reads (reads o)
  pub writes : IsTouched made.out.writes (writes o)
  pub forgets : (a : ℕ) → forgets o (AtByte a) ≡ (is_in_stack before.slot a && is_below made.out.forgets a)
  pub finish : made.finish ≡ (if completes o then Some (finish_of o.act) else None)

-- the line tells no step from this state
abbrev pub NoStepBy : Image → Settings → List ℕ → State → Type 0
NoStepBy image settings line before = (o : Occurrence Act) → o.before ≡ before → ¬ TellsStep image settings line o

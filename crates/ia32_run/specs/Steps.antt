-- What a step of a run's code is: a step of the definitions, with 0 in each byte of any content. The project's own.
use Rattle.std.specs.Prelude.{◌≡◌, ℕ, ◌≤◌, ◌&&◌, true, List, ◌++◌, drop, length, Some}
use Rattle.image_map.specs.declared.image.Image.{Image}
use Rattle.ia32_semantics.specs.State.{State, AtByte}
use Rattle.ia32_semantics.specs.Machine.{Occurrence}
use Rattle.ia32_semantics.specs.Outcome.{is_in_stack, is_below, is_any}
use Rattle.ia32_semantics.specs.Step.{Act, Step, reads, writes, forgets}
use Rattle.ia32_machine.specs.declared.touched.StepOut.{StepOut}
use Rattle.ia32_machine.specs.Touches.{IsTouched}
use Rattle.ia32_run.specs.Choices.{Spreads}

abbrev pub occurrence : Act → List ℕ → State → State → Occurrence Act
occurrence act choices before after = record { before = before; act = act; choices = choices; after = after }

-- The act is done with the first of some words, and the others are left. Beside the state, the places are told that it reads,
-- writes and forgets, where control goes, and how many of the words it took.
pub record IsDone (image : Image) (act : Act) (words : List ℕ) (out : StepOut) (before after : State) : Type 0 where
  pub choices : List ℕ
  pub left : List ℕ
  pub spread : Spreads act before words left choices
  pub step : Step image (occurrence act choices before after)
  pub zeros : (a : ℕ) → is_any step.done before a ≡ true → after.memory a ≡ Some 0
  pub reads : IsTouched out.reads (reads (occurrence act choices before after))
  pub writes : IsTouched out.writes (writes (occurrence act choices before after))
  pub forgets : (a : ℕ) → forgets (occurrence act choices before after) (AtByte a) ≡ (is_in_stack before.slot a && is_below out.forgets a)
  pub next : after.eip ≡ out.next
  pub few : out.used ≤ length words
  pub taken : left ≡ drop out.used words

-- it can't be done with the first of these words, whatever came after them
abbrev pub CantBeDone : Image → Act → List ℕ → State → Type 0
CantBeDone image act words before =
    (rest left choices : List ℕ) (after : State) → Spreads act before (words ++ rest) left choices → ¬ Step image (occurrence act choices before after)

-- What the machine's step of an instruction is: a step of the definitions, with 0 in each byte of any content. The project's own.
use Rattle.std.specs.Prelude.{◌≡◌, ℕ, ◌&&◌, Bool, true, length, List, ◌++◌, Option, Some}
use Rattle.image_map.specs.declared.image.Image.{Image}
use Rattle.ia32_types.specs.declared.Instr.{Instr}
use Rattle.ia32_semantics.specs.State.{State, AtByte}
use Rattle.ia32_semantics.specs.Machine.{Occurrence}
use Rattle.ia32_semantics.specs.Outcome.{Outcome, made, is_in_stack, is_below, is_any}
use Rattle.ia32_semantics.specs.Step.{Act, Executes, Step, reads, writes, forgets}
use Rattle.ia32_memory.specs.Changes.{cleared}
use Rattle.ia32_machine.specs.declared.touched.StepOut.{StepOut}
use Rattle.ia32_machine.specs.Touches.{IsTouched}

-- an instruction is executed with these words of choice
abbrev pub executes : Instr → List ℕ → State → State → Occurrence Act
executes i words before after = record { before = before; act = Executes i; choices = words; after = after }

-- It is executed with the first of some words, and the others are left. What may be any of memory is 0. Beside the state, the
-- places are told that it reads, writes and forgets, where control goes, and how many of the words it took.
pub record IsExecuted (image : Image) (i : Instr) (words : List ℕ) (out : StepOut) (before after : State) : Type 0 where
  pub used : List ℕ
  pub left : List ℕ
  pub are : words ≡ used ++ left
  pub step : Step image (executes i used before after)
  pub zeros : (a : ℕ) → is_any step.done before a ≡ true → after.memory a ≡ Some 0
  pub reads : IsTouched out.reads (reads (executes i used before after))
  pub writes : IsTouched out.writes (writes (executes i used before after))
  pub next : after.eip ≡ out.next
  pub forgets : (a : ℕ) → forgets (executes i used before after) (AtByte a) ≡ (is_in_stack before.slot a && is_below out.forgets a)
  pub count : out.used ≡ length used

-- it can't be executed with the first of these words, whatever came after it
abbrev pub Faults : Image → Instr → List ℕ → State → Type 0
Faults image i words before = (used left : List ℕ) (after : State) → words ≡ used ++ left → ¬ Step image (executes i used before after)

-- the state after an outcome, with 0 in what it forgets
abbrev pub performed : Outcome → State → State
performed done s = record (made done s) { memory = cleared (λ a. is_in_stack s.slot a && is_below done.forgets a) (made done s).memory }

-- the state at a place, with 0 in those bytes of the stack that lie below an address
abbrev pub gone_on : ℕ → Option ℕ → (ℕ → Bool) → State → State
gone_on place forgets in_stack s = record s { eip = place; memory = cleared (λ a. in_stack a && is_below forgets a) s.memory }

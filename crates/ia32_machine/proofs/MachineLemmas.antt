-- The machine's step is one of the definitions, and where it faults there is none.
use Rattle.std.proofs.Common.{◌≡◌, ℕ, ◌<◌, ◌^◌, List, length, refl, sym, ap, ◌∙◌}
use Rattle.std.specs.Prelude.{true, false, ◌&&◌, Some, None, is_some}
use Rattle.std.proofs.lemmas.Bool.{and_from, and_right, and_left}
use Rattle.image_map.specs.declared.image.Image.{Image}
use Rattle.image_map.specs.declared.region.Activation.{Activation}
use Rattle.image_map.specs.declared.region.Block.{Block}
use Rattle.image_map.specs.Whole.{IsImage}
use Rattle.ia32_types.specs.declared.Instr.{Instr}
use Rattle.ia32_semantics.specs.declared.state.Allocation.{Allocation}
use Rattle.ia32_semantics.specs.State.{State, AtByte}
use Rattle.ia32_semantics.specs.Reading.{outcome, asks}
use Rattle.ia32_semantics.specs.Rows.{row}
use Rattle.ia32_semantics.specs.Effects.{all_changed, effects_fit}
use Rattle.ia32_semantics.specs.Outcome.{moved, can_move, is_possible, is_in_stack}
use Rattle.ia32_semantics.specs.CallModel.{IsLaidOut}
use Rattle.ia32_semantics.proofs.StepLemmas.{steps_stay_laid_out}
use Rattle.ia32_memory.specs.Mapped.{bytes_of, is_in_first}
use Rattle.ia32_memory.proofs.ShapeLaws.{same_first}
use Rattle.ia32_plan.specs.declared.state.Core.{Core}
use Rattle.ia32_plan.specs.declared.entries.Plan.{Plan}
use Rattle.ia32_plan.specs.Plans.{all_effects, move_of, outcome_of}
use Rattle.ia32_plan.specs.Views as views
use Rattle.ia32_plan.proofs.StateLaws.{SameParts, outcome_alike, asks_alike}
use Rattle.ia32_plan.specs.declared.words.Words.{Words}
use Rattle.image_map.specs.Shapes.{shapes}
use Rattle.ia32_machine.specs.declared.touched.StepOut.{StepOut}
use Rattle.ia32_machine.specs.Touches.{IsToldOf}
use Rattle.ia32_machine.specs.Opens.{KnowsOpen}
use Rattle.ia32_machine.proofs.ToldLemmas.{told_is_executed}
use Rattle.ia32_machine.specs.Steps.{executes, IsExecuted, Faults, performed, gone_on}
use Rattle.ia32_machine.proofs.StepLemmas.{with_calls, performed_state, IsStepped, performed_is_stepped, unplanned_faults, impossible_faults, knows_after, performed_maps}

-- what a core's plan is, once it has been performed
pub record Performed (image : Image) (i : Instr) (words left : List ℕ) (used : Words) (plan : Plan) (out : StepOut) (old mid new : Core) (before after : List Activation) (slot : ℕ) : Type 0 where
  pub planned : outcome (row i.op i) (views.state_of old) words ≡ Some (outcome_of plan, left)
  pub asked : (a : ℕ) → views.has_read used.reads a ≡ asks (row i.op i) (views.state_of old) words (AtByte a)
  pub fits : effects_fit image (bytes_of old.memory) (all_effects plan.effects) ≡ true
  pub moves : can_move (move_of plan.calls) before ≡ true
  pub calls : after ≡ moved (move_of plan.calls) before
  pub done : views.state_of mid ≡ all_changed (all_effects plan.effects) (views.state_of old)
  pub gone : views.state_of new ≡ gone_on plan.place plan.forgets (is_in_first mid.memory) (views.state_of mid)
  pub first_shapes : shapes mid.memory ≡ shapes old.memory
  pub last_shapes : shapes new.memory ≡ shapes mid.memory
  pub stack : (a : ℕ) → is_in_first old.memory a ≡ is_in_stack slot a
  pub place : plan.place < 2 ^ 32
  pub told : IsToldOf old i used plan out
  pub left_are : views.words_left used ≡ left
  pub eight : length words ≡ 8

alike : (t : State) (activations : List Activation) (blocks : List Block) (allocs : List Allocation) (slot : ℕ) → SameParts (with_calls t activations blocks allocs slot) t
alike t activations blocks allocs slot = record { registers = refl; flags = refl; memory = refl }

module _ (image : Image) (i : Instr) (words left : List ℕ) (used : Words) (plan : Plan) (out : StepOut) (old mid new : Core) (before after : List Activation) (slot : ℕ)
    (blocks : List Block) (allocs : List Allocation) (p : Performed image i words left used plan out old mid new before after slot) where
  after_is : with_calls (views.state_of new) after blocks allocs slot ≡ performed (outcome_of plan) (with_calls (views.state_of old) before blocks allocs slot)
  after_is =
      performed_state (views.state_of old) (views.state_of mid) (views.state_of new) (all_effects plan.effects) plan.place plan.forgets (is_in_first mid.memory) (move_of plan.calls)
      before after blocks allocs slot p.done p.gone p.calls (λ a. same_first mid.memory old.memory p.first_shapes a ∙ p.stack a) p.place

  abbrev s : State
  s = with_calls (views.state_of old) before blocks allocs slot

  abbrev after_ : State
  after_ = with_calls (views.state_of new) after blocks allocs slot

  possible : is_possible image (outcome_of plan) s ≡ true
  possible = and_from (effects_fit image (bytes_of old.memory) (all_effects plan.effects)) (can_move (move_of plan.calls) before) p.fits p.moves

  planned : outcome (row i.op i) s words ≡ Some (outcome_of plan, left)
  planned = outcome_alike (row i.op i) s (views.state_of old) words (alike (views.state_of old) before blocks allocs slot) ∙ p.planned

  stepped : IsStepped image i words left (outcome_of plan) s after_
  stepped = performed_is_stepped image i s after_ words left (outcome_of plan) planned possible refl after_is

  asked : (a : ℕ) → views.has_read used.reads a ≡ asks (row i.op i) s words (AtByte a)
  asked a = p.asked a ∙ sym (asks_alike (row i.op i) s (views.state_of old) words (AtByte a) (alike (views.state_of old) before blocks allocs slot))

  pub step_executed : IsImage image → IsLaidOut image s → IsExecuted image i words out s after_
  step_executed whole lies =
      told_is_executed image i words left used plan old out s after_ stepped whole lies refl p.fits p.told p.left_are p.eight asked (ap (λ (t : State). t.eip) p.gone)

  step_laid_out : IsLaidOut image (with_calls (views.state_of old) before blocks allocs slot) → IsLaidOut image (with_calls (views.state_of new) after blocks allocs slot)
  step_laid_out lies =
      let e = stepped in
      steps_stay_laid_out image (executes i e.used (with_calls (views.state_of old) before blocks allocs slot) (with_calls (views.state_of new) after blocks allocs slot)) e.step lies

  step_knows : KnowsOpen image old.memory → KnowsOpen image new.memory
  step_knows knows =
      knows_after image old.memory new.memory knows (p.last_shapes ∙ p.first_shapes)
      (λ a. ap (λ (t : State). is_some (t.memory a)) after_is ∙ performed_maps image (outcome_of plan) (with_calls (views.state_of old) before blocks allocs slot) a p.fits)

  step_stack : (a : ℕ) → is_in_first new.memory a ≡ is_in_stack slot a
  step_stack a = same_first new.memory old.memory (p.last_shapes ∙ p.first_shapes) a ∙ p.stack a

  -- what it keeps
  pub step_runs : IsLaidOut image s → KnowsOpen image old.memory
      → IsLaidOut image after_ × KnowsOpen image new.memory × ((a : ℕ) → is_in_first new.memory a ≡ is_in_stack slot a)
  step_runs lies knows = (step_laid_out lies, step_knows knows, step_stack)

pub step_unplanned : (image : Image) (i : Instr) (words : List ℕ) (core : Core) (activations : List Activation) (blocks : List Block) (allocs : List Allocation) (slot : ℕ)
    → outcome (row i.op i) (views.state_of core) words ≡ None → Faults image i words (with_calls (views.state_of core) activations blocks allocs slot)
step_unplanned image i words core activations blocks allocs slot none =
    unplanned_faults image i (with_calls (views.state_of core) activations blocks allocs slot) words
    (outcome_alike (row i.op i) (with_calls (views.state_of core) activations blocks allocs slot) (views.state_of core) words (alike (views.state_of core) activations blocks allocs slot) ∙ none)

step_impossible : (image : Image) (i : Instr) (words left : List ℕ) (plan : Plan) (core : Core) (activations : List Activation) (blocks : List Block) (allocs : List Allocation) (slot : ℕ)
    → outcome (row i.op i) (views.state_of core) words ≡ Some (outcome_of plan, left)
    → (effects_fit image (bytes_of core.memory) (all_effects plan.effects) && can_move (move_of plan.calls) activations) ≡ false
    → Faults image i words (with_calls (views.state_of core) activations blocks allocs slot)
step_impossible image i words left plan core activations blocks allocs slot planned impossible =
    impossible_faults image i (with_calls (views.state_of core) activations blocks allocs slot) words left (outcome_of plan)
    (outcome_alike (row i.op i) (with_calls (views.state_of core) activations blocks allocs slot) (views.state_of core) words (alike (views.state_of core) activations blocks allocs slot) ∙ planned)
    impossible

pub step_unfit : (image : Image) (i : Instr) (words left : List ℕ) (plan : Plan) (core : Core) (activations : List Activation) (blocks : List Block) (allocs : List Allocation) (slot : ℕ)
    → outcome (row i.op i) (views.state_of core) words ≡ Some (outcome_of plan, left) → effects_fit image (bytes_of core.memory) (all_effects plan.effects) ≡ false
    → Faults image i words (with_calls (views.state_of core) activations blocks allocs slot)
step_unfit image i words left plan core activations blocks allocs slot planned unfit =
    step_impossible image i words left plan core activations blocks allocs slot planned (and_left (effects_fit image (bytes_of core.memory) (all_effects plan.effects)) (can_move (move_of plan.calls) activations) unfit)

pub step_unmoved : (image : Image) (i : Instr) (words left : List ℕ) (plan : Plan) (core : Core) (activations : List Activation) (blocks : List Block) (allocs : List Allocation) (slot : ℕ)
    → outcome (row i.op i) (views.state_of core) words ≡ Some (outcome_of plan, left) → can_move (move_of plan.calls) activations ≡ false
    → Faults image i words (with_calls (views.state_of core) activations blocks allocs slot)
step_unmoved image i words left plan core activations blocks allocs slot planned unmoved =
    step_impossible image i words left plan core activations blocks allocs slot planned (and_right (effects_fit image (bytes_of core.memory) (all_effects plan.effects)) (can_move (move_of plan.calls) activations) unmoved)

-- What is told of a plan are the places that its step reads and writes.
use Rattle.std.proofs.Common.{◌≡◌, ℕ, ◌+◌, List, length, length-append, sym, ap, ◌∙◌, arith}
use Rattle.std.specs.Prelude.{true, false, ◌||◌, ◌&&◌, ◌==◌, if◌then◌else◌}
use Rattle.image_map.specs.declared.image.Image.{Image}
use Rattle.image_map.specs.declared.spans.Span.{Span}
use Rattle.image_map.specs.Ranges.{is_any}
use Rattle.image_map.specs.Whole.{IsImage}
use Rattle.ia32_types.specs.declared.Instr.{Instr}
use Rattle.ia32_types.specs.declared.Reg.TheVariants.{Ecx}
use Rattle.ia32_types.specs.Numbers.{reg_number, flag_number, is_same_reg}
use Rattle.ia32_types.specs.Places.{registers_read, flags_read}
use Rattle.ia32_types.specs.Sets.{is_listed_reg, is_listed_flag}
use Rattle.ia32_semantics.specs.Laws.{is_repeated}
use Rattle.ia32_semantics.specs.State.{State, AtByte, InRegister, InFlag}
use Rattle.ia32_semantics.specs.Reading.{asks}
use Rattle.ia32_semantics.specs.Effects.{effects_fit, effects_write, effects_take}
use Rattle.ia32_semantics.specs.Outcome.{Outcome, is_forgotten, is_in_stack, is_below}
use Rattle.ia32_semantics.specs.Step.{outcome_forgets}
use Rattle.ia32_semantics.specs.CallModel.{IsLaidOut}
use Rattle.ia32_semantics.specs.Rows.{row}
use Rattle.ia32_plan.specs.declared.state.Core.{Core}
use Rattle.ia32_plan.specs.declared.entries.Plan.{Plan}
use Rattle.ia32_plan.specs.declared.words.Words.{Words}
use Rattle.ia32_plan.specs.Plans.{all_effects, outcome_of}
use Rattle.ia32_plan.specs.Views.{state_of, has_read, words_left}
use Rattle.ia32_machine.specs.declared.touched.StepOut.{StepOut}
use Rattle.ia32_machine.specs.Touches.{IsToldOf}
use Rattle.ia32_machine.specs.Steps.{IsExecuted}
use Rattle.ia32_machine.proofs.StepLemmas.{IsStepped}
use Rattle.ia32_machine.proofs.PlaceLemmas.{mapped_low, registers_are, flags_are, bytes_are, asked_there, written_are}
use Rattle.ia32_machine.proofs.EntryLemmas.{all_targets_are, reads_are}

pub told_is_executed : (image : Image) (i : Instr) (words left : List ℕ) (taken : Words) (plan : Plan) (core : Core) (out : StepOut) (s after : State)
    → (e : IsStepped image i words left (outcome_of plan) s after) → IsImage image → IsLaidOut image s
    → s.registers ≡ (state_of core).registers → effects_fit image s.memory (all_effects plan.effects) ≡ true → IsToldOf core i taken plan out → words_left taken ≡ left → length words ≡ 8
    → ((a : ℕ) → has_read taken.reads a ≡ asks (row i.op i) s words (AtByte a)) → after.eip ≡ plan.place
    → IsExecuted image i words out s after
told_is_executed image i words left taken plan core out s after e whole lies same fits told left_are eight asked eip =
    let low = mapped_low image s whole lies in
    let done : e.step.done.effects ≡ all_effects plan.effects = ap (λ (d : Outcome). d.effects) e.is in
    let read : (a : ℕ) → has_read taken.reads a ≡ asks (row i.op i) s e.used (AtByte a) = λ a. asked a ∙ e.asked a in
    record {
      used = e.used;
      left = left;
      are = e.are;
      step = e.step;
      zeros = e.zeros;
      reads = record {
        registers = λ r. told.read_registers r ∙ ap (λ (f : ℕ → ℕ). if is_repeated i.op && f 1 == 0 then is_same_reg r Ecx else is_listed_reg (registers_read i) r) (sym same) ∙ sym (registers_are image i e.used s after e.step r);
        flags = λ f. told.read_flags f ∙ ap (λ (g : ℕ → ℕ). if is_repeated i.op && g 1 == 0 then false else is_listed_flag (flags_read i) f) (sym same) ∙ sym (flags_are image i e.used s after e.step f);
        bytes = λ a. ap (λ (l : List Span). is_any l a) told.read_bytes
            ∙ reads_are image s.memory low taken.reads plan.effects a (λ y f. asked_there image i e.used s after e.step y (sym (read y) ∙ f)) fits
            ∙ ap (λ b. b || effects_take (all_effects plan.effects) (AtByte a)) (read a)
            ∙ ap (λ es. asks (row i.op i) s e.used (AtByte a) || effects_take es (AtByte a)) (sym done)
            ∙ sym (bytes_are image i e.used s after e.step a (ap (λ (d : Outcome). d.reads_all) e.is));
      };
      writes = record {
        registers = λ r. told.written_registers r ∙ ap (λ es. effects_write es (InRegister (reg_number r))) (sym done) ∙ sym (written_are image i e.used s after e.step (InRegister (reg_number r)));
        flags = λ f. told.written_flags f ∙ ap (λ es. effects_write es (InFlag (flag_number f))) (sym done) ∙ sym (written_are image i e.used s after e.step (InFlag (flag_number f)));
        bytes = λ a. ap (λ (l : List Span). is_any l a) told.written_bytes ∙ all_targets_are image s.memory low plan.effects a fits
            ∙ ap (λ es. effects_write es (AtByte a)) (sym done) ∙ sym (written_are image i e.used s after e.step (AtByte a));
      };
      next = eip ∙ sym told.next;
      forgets = λ a. ap (λ r. outcome_forgets r s (AtByte a)) e.step.row ∙ ap (λ (d : Outcome). is_forgotten d s a) e.is
          ∙ ap (λ f. is_in_stack s.slot a && is_below f a) (sym told.forgets);
      count =
          let parts : length words ≡ length e.used + length left = ap length e.are ∙ length-append e.used left in
          let rest : out.used + length left ≡ 8 = ap (λ l. out.used + length l) (sym left_are) ∙ told.used in
          omega arith;
    }

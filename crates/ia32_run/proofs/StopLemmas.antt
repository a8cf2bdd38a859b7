-- An extern ends the program, or none of its kind is known.
use Rattle.std.proofs.Common.{◌≡◌, ℕ, ◌<◌, ◌^◌, ◌%◌, List, [], drop, refl, sym, ap, ◌∙◌, arith}
use Rattle.std.specs.Prelude.{Bool, true, false, cond, ◌&&◌, Option, Some, is_some}
use Rattle.std.proofs.lemmas.Option.{none-some}
use mathlib.Core.Path.{fun_ext}
use Rattle.image_map.specs.declared.image.Image.{Image}
use Rattle.image_map.specs.declared.region.Kind.TheVariants as kind
use Rattle.ia32_semantics.specs.State.{State, Location, AtByte}
use Rattle.ia32_semantics.specs.Reading.{outcome}
use Rattle.ia32_semantics.specs.Outcome.{going, is_in_stack, is_below}
use Rattle.ia32_semantics.specs.Externs.{extern_row}
use Rattle.ia32_semantics.specs.Step.{Answers, reads, writes, outcome_forgets}
use Rattle.ia32_machine.specs.declared.touched.StepOut.{StepOut}
use Rattle.ia32_run.specs.Answers.{IsNothing}
use Rattle.ia32_run.specs.Steps.{occurrence, IsDone, CantBeDone}
use Rattle.ia32_run.proofs.SettledLemmas.{settled, settled_steps}

stop_row : (at : ℕ) (s : State) → outcome (extern_row at kind.Stop) s [] ≡ Some (going [] at, [])
unfolding extern_row
stop_row at s = refl

no_reads : (at : ℕ) (s after : State) (l : Location) → reads (occurrence (Answers at kind.Stop) [] s after) l ≡ false
unfolding extern_row
no_reads at s after l = refl

no_writes : (at : ℕ) (s after : State) (l : Location) → writes (occurrence (Answers at kind.Stop) [] s after) l ≡ false
unfolding extern_row
no_writes at s after l = refl

kept_go : (mapped in_stack : Bool) (m : Option ℕ) → cond (cond mapped (in_stack && false) false) (Some 0) m ≡ m
kept_go true true m = refl
kept_go true false m = refl
kept_go false in_stack m = refl

stop_settles : (s : State) → s.eip < 2 ^ 32 → s ≡ settled (going [] s.eip) s
stop_settles s small =
    let cut : s.eip ≡ s.eip % 2 ^ 32 = omega arith in
    ap (λ n. record s { eip = n }) cut
    ∙ sym (ap (λ m. record s { eip = s.eip % 2 ^ 32; memory = m }) (fun_ext (λ a. kept_go (is_some (s.memory a)) (is_in_stack s.slot a) (s.memory a))))

pub stop_is_done : (image : Image) (words : List ℕ) (out : StepOut) (s : State) → s.eip < 2 ^ 32 → IsNothing s.eip out → IsDone image (Answers s.eip kind.Stop) words out s s
stop_is_done image words out s small nothing =
    let st = settled_steps image (Answers s.eip kind.Stop) [] s s (going [] s.eip) (stop_row s.eip s) refl tt (stop_settles s small) in
    record {
      choices = [];
      left = words;
      spread = refl;
      step = st.step;
      zeros = st.zeros;
      reads = record {
        registers = λ r. nothing.read_registers r ∙ sym (no_reads s.eip s s _);
        flags = λ f. nothing.read_flags f ∙ sym (no_reads s.eip s s _);
        bytes = λ a. nothing.read_bytes a ∙ sym (no_reads s.eip s s _);
      };
      writes = record {
        registers = λ r. nothing.written_registers r ∙ sym (no_writes s.eip s s _);
        flags = λ f. nothing.written_flags f ∙ sym (no_writes s.eip s s _);
        bytes = λ a. nothing.written_bytes a ∙ sym (no_writes s.eip s s _);
      };
      forgets = λ a. ap (λ r. outcome_forgets r s (AtByte a)) (stop_row s.eip s)
          ∙ ap (λ (limit : Option ℕ). is_in_stack s.slot a && is_below limit a) (sym nothing.forgets);
      next = sym nothing.next;
      few = (let used = nothing.used in omega arith);
      taken = ap (λ n. drop n words) (sym nothing.used);
    }

pub unknown_cant : (image : Image) (at : ℕ) (words : List ℕ) (s : State) → CantBeDone image (Answers at kind.Unknown) words s
unfolding extern_row
unknown_cant image at words s rest left choices after spread = λ st. none-some _ st.row

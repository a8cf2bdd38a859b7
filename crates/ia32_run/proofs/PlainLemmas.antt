-- An extern that reads arguments, and maybe all of memory, answers.
use Rattle.std.proofs.Common.{◌≡◌, ℕ, zero, suc, ◌+◌, ◌*◌, ◌<◌, ◌≤◌, ◌^◌, ◌%◌, List, [], ◌∷◌, ◌++◌, length, drop, refl, sym, ap, ◌∙◌, subst, arith}
use Rattle.std.specs.Prelude.{Bool, true, false, ◌||◌, slice_index, Option, Some, is_some, MatchOption}
use Rattle.std.proofs.lemmas.Bool.Decides.{nat_tests}
use Rattle.std.proofs.lemmas.List.{append-nil}
use Rattle.image_map.specs.declared.image.Image.{Image}
use Rattle.item_list.specs.Ranges.{within}
use Rattle.image_map.specs.Whole.{IsImage}
use Rattle.ia32_types.specs.declared.Reg.{Reg}
use Rattle.ia32_types.specs.declared.Reg.TheVariants.{Eax, Ecx, Edx, Esp}
use Rattle.ia32_types.specs.declared.Flag.{Flag}
use Rattle.ia32_types.specs.declared.Flag.TheVariants.{Cf, Pf, Zf, Sf, Of}
use Rattle.ia32_types.specs.Numbers.{reg_number, flag_number, is_same_reg, is_same_flag}
use Rattle.ia32_types.proofs.NumberLemmas.{each_reg, each_flag}
use Rattle.ia32_semantics.specs.State.{State, Bytes, InRegister, InFlag, word_at}
use Rattle.ia32_semantics.specs.Effects.{effects_write, all_among, is_mapped}
use Rattle.ia32_semantics.specs.Outcome.{Outcome, can_move, leaves, is_in_stack}
use Rattle.ia32_semantics.specs.Reading.{outcome}
use Rattle.ia32_semantics.specs.Externs.{answered, extern_row}
use Rattle.ia32_semantics.specs.CallModel.{IsLaidOut}
use Rattle.ia32_semantics.specs.Step.{Answers, Step}
use Rattle.ia32_semantics.proofs.StepLemmas.{steps_stay_laid_out}
use Rattle.ia32_memory.specs.Mapped.{bytes_of}
use Rattle.image_map.specs.Shapes.{shapes}
use Rattle.ia32_memory.proofs.ShapeLaws.{same_first}
use Rattle.ia32_plan.specs.declared.state.Core.{Core}
use Rattle.ia32_machine.specs.declared.touched.StepOut.{StepOut}
use Rattle.ia32_machine.specs.declared.machine.Machine.{Machine}
use Rattle.ia32_machine.specs.Machines.{state_of, RunsImage}
use Rattle.ia32_machine.specs.Steps.{performed}
use Rattle.ia32_machine.proofs.StepLemmas.{knows_after, performed_maps}
use Rattle.ia32_run.specs.Choices.{Spreads}
use Rattle.ia32_run.specs.Answers.{results_of, plain_kind, plain_row, plain_done, IsToldOf}
use Rattle.ia32_run.specs.Steps.{occurrence, IsDone, CantBeDone}
use Rattle.ia32_run.proofs.AnswerLemmas.{has_number, first_of, Needs}
use Rattle.ia32_run.proofs.ExternLemmas.{RowDone, plain_is, plain_needs}
use Rattle.ia32_run.proofs.SettledLemmas.{settled, settled_steps, performed_settles, answer_is_done, cant_unmapped, cant_with}

-- -- The return word

abbrev pub with_memory : Bytes → State
with_memory m = record { registers = λ n. 0; flags = λ n. false; eip = 0; memory = m; activations = []; blocks = []; allocs = []; slot = 0 }

pub place_there : (m : Bytes) (a n k : ℕ) (o : Option ℕ) → o ≡ word_at m a → n ≡ 4 + k → all_among (is_mapped m) a n ≡ true
    → MatchOption o (all_among (is_mapped m) a n ≡ false) (λ place. (all_among (is_mapped m) a n ≡ true) × (word_at m a ≡ Some place))
place_there m a n k o is long mapped =
    let has = has_number (with_memory m) 4 a (first_of (is_mapped m) a 4 k (ap (all_among (is_mapped m) a) (sym long) ∙ mapped)) in
    subst (λ o. MatchOption o (all_among (is_mapped m) a n ≡ false) (λ place. (all_among (is_mapped m) a n ≡ true) × (word_at m a ≡ Some place))) (sym (is ∙ has.is)) (mapped, has.is)

-- -- What is written

pub registers_written : (r : Reg) (x : ℕ) (words : List ℕ) (sp place : ℕ)
    → effects_write (answered (results_of words) sp place).effects (InRegister (reg_number r)) ≡ (((is_same_reg r Eax || is_same_reg r Ecx) || is_same_reg r Edx) || is_same_reg r Esp)
registers_written r x words sp place =
    each_reg (λ r. effects_write (answered (results_of words) sp place).effects (InRegister (reg_number r)) ≡ (((is_same_reg r Eax || is_same_reg r Ecx) || is_same_reg r Edx) || is_same_reg r Esp))
    refl refl refl refl refl refl refl refl r

pub flags_written : (f : Flag) (words : List ℕ) (sp place : ℕ)
    → effects_write (answered (results_of words) sp place).effects (InFlag (flag_number f)) ≡ ((((is_same_flag f Cf || is_same_flag f Pf) || is_same_flag f Zf) || is_same_flag f Sf) || is_same_flag f Of)
flags_written f words sp place =
    each_flag (λ f. effects_write (answered (results_of words) sp place).effects (InFlag (flag_number f)) ≡ ((((is_same_flag f Cf || is_same_flag f Pf) || is_same_flag f Zf) || is_same_flag f Sf) || is_same_flag f Of))
    refl refl refl refl refl refl f

pub none_within : (a : ℕ) → false ≡ within 0 0 a
none_within a = grind (arith, nat_tests)

pub drop_long : (n : ℕ) (xs : List ℕ) → length xs ≤ n → drop n xs ≡ []
drop_long zero [] le = refl
drop_long zero (x ∷ xs) le = absurd (omega arith)
drop_long (suc n) [] le = refl
drop_long (suc n) (x ∷ xs) le = drop_long n xs (omega arith)

-- -- It answers

same_row : (at : ℕ) (reads_all : Bool) (n : ℕ) → plain_row reads_all n ≡ extern_row at (plain_kind reads_all n)
unfolding extern_row
same_row at false n = refl
same_row at true n = refl

spread_is : (at : ℕ) (reads_all : Bool) (n : ℕ) (s : State) (words left choices : List ℕ) → words ≡ choices ++ left → Spreads (Answers at (plain_kind reads_all n)) s words left choices
spread_is at false n s words left choices e = e
spread_is at true n s words left choices e = e

spread_of : (at : ℕ) (reads_all : Bool) (n : ℕ) (s : State) (words left choices : List ℕ) → Spreads (Answers at (plain_kind reads_all n)) s words left choices → words ≡ choices ++ left
spread_of at false n s words left choices e = e
spread_of at true n s words left choices e = e

-- what is known once it has answered
pub record Plain (reads_all : Bool) (n : ℕ) (words : List ℕ) (place : ℕ) (s after : State) : Type 0 where
  pub long : length words ≡ 8
  pub mapped : all_among (is_mapped s.memory) (s.registers 4) (4 + 4 * n) ≡ true
  pub at : word_at s.memory (s.registers 4) ≡ Some place
  pub moves : can_move leaves s.activations ≡ true
  pub is : after ≡ performed (answered (results_of words) (s.registers 4) place) s
  pub fits : place < 2 ^ 32

module _ (image : Image) (at reads : ℕ) (reads_all : Bool) (words : List ℕ) (place : ℕ) (s after : State) (p : Plain reads_all reads words place s after) where
  abbrev done : Outcome
  done = plain_done reads_all (results_of words) (s.registers 4) place

  row : RowDone (extern_row at (plain_kind reads_all reads)) s words (4 + 4 * reads) done
  row = subst (λ t. RowDone t s words (4 + 4 * reads) done) (same_row at reads_all reads) (plain_is reads_all reads s words place p.long p.mapped p.at)

  settles : after ≡ settled done s
  settles = p.is ∙ performed_settles image done s refl refl

  pub plain_is_done : (core : Core) (out : StepOut) → IsImage image → IsLaidOut image s → s.registers 4 ≡ slice_index core.regs 4 → ((a : ℕ) → is_some (bytes_of core.memory a) ≡ is_some (s.memory a))
      → IsToldOf core (4 + 4 * reads) reads_all (record { start = 0; end = 0 }) place out → IsDone image (Answers at (plain_kind reads_all reads)) words out s after
  plain_is_done core out whole lies sp memory told =
      answer_is_done image at (plain_kind reads_all reads) words words [] core out s after (4 + 4 * reads) place reads_all (record { start = 0; end = 0 }) done whole lies
      (record {
        row = row;
        spread = spread_is at reads_all reads s words [] words (sym (append-nil words));
        taken = sym (drop_long 8 words (let long = p.long in omega arith));
        long = p.long;
        possible = p.moves;
        lies = tt;
        is = settles;
        all = refl;
        takes = λ l. refl;
        registers = λ r. registers_written r 0 words (s.registers 4) place;
        flags = λ f. flags_written f words (s.registers 4) place;
        bytes_written = λ a. none_within a;
        forgets = ap (λ n. Some ((n + 4) % 2 ^ 32)) sp;
        goes = (let fits = p.fits in let cut : place % 2 ^ 32 ≡ place = omega arith in ap (λ (t : State). t.eip) p.is ∙ cut);
        told = told;
        sp = sp;
        memory = memory;
        some_bytes = p.mapped;
        more = 3 + 4 * reads;
        bytes_are = omega arith;
      })

  step : Step image (occurrence (Answers at (plain_kind reads_all reads)) words s after)
  step =
      let st = settled_steps image (Answers at (plain_kind reads_all reads)) words s after done
      (ap (outcome (extern_row at (plain_kind reads_all reads)) s) (sym (append-nil words)) ∙ row.given []) p.moves tt settles in
      st.step

  pub plain_maps : (a : ℕ) → is_some (after.memory a) ≡ is_some (s.memory a)
  plain_maps a = ap (λ (t : State). is_some (t.memory a)) p.is ∙ performed_maps image (answered (results_of words) (s.registers 4) place) s a refl

  pub plain_laid_out : IsLaidOut image s → IsLaidOut image after
  plain_laid_out lies = steps_stay_laid_out image (occurrence (Answers at (plain_kind reads_all reads)) words s after) step lies

-- a machine whose memory has kept its shape runs the image on
pub runs_on : (image : Image) (old new : Machine) → RunsImage image old → new.slot ≡ old.slot → shapes new.core.memory ≡ shapes old.core.memory
    → ((a : ℕ) → is_some (bytes_of new.core.memory a) ≡ is_some (bytes_of old.core.memory a)) → IsLaidOut image (state_of new) → RunsImage image new
runs_on image old new runs slot same maps lies = record {
  laid_out = lies;
  knows = knows_after image old.core.memory new.core.memory runs.knows same maps;
  stack = λ a. same_first new.core.memory old.core.memory same a ∙ runs.stack a ∙ ap (λ n. is_in_stack n a) (sym slot);
}

-- -- It can't

pub plain_unmapped : (image : Image) (at : ℕ) (reads_all : Bool) (n : ℕ) (words : List ℕ) (s : State) → all_among (is_mapped s.memory) (s.registers 4) (4 + 4 * n) ≡ false
    → CantBeDone image (Answers at (plain_kind reads_all n)) words s
plain_unmapped image at reads_all n words s unmapped =
    cant_unmapped image at (plain_kind reads_all n) words s (4 + 4 * n) (subst (λ t. Needs t s (s.registers 4) (4 + 4 * n)) (same_row at reads_all n) (plain_needs reads_all n s)) unmapped

pub plain_stays : (image : Image) (at : ℕ) (reads_all : Bool) (n : ℕ) (words : List ℕ) (s : State) (place : ℕ) → length words ≡ 8 → all_among (is_mapped s.memory) (s.registers 4) (4 + 4 * n) ≡ true
    → word_at s.memory (s.registers 4) ≡ Some place → can_move leaves s.activations ≡ false → CantBeDone image (Answers at (plain_kind reads_all n)) words s
plain_stays image at reads_all n words s place long mapped is_place stays rest left choices after spread =
    let row = subst (λ t. RowDone t s words (4 + 4 * n) (plain_done reads_all (results_of words) (s.registers 4) place)) (same_row at reads_all n) (plain_is reads_all n s words place long mapped is_place) in
    cant_with image (Answers at (plain_kind reads_all n)) s words rest left choices after (plain_done reads_all (results_of words) (s.registers 4) place) (row.given rest) stays
    (spread_of at reads_all n s (words ++ rest) left choices spread)

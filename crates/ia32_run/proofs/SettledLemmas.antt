-- That an extern answers is a step, and that it can't be done where it can't be.
use Rattle.std.proofs.Common.{◌≡◌, ℕ, suc, ◌+◌, ◌-◌, ◌<◌, ◌^◌, ◌%◌, List, [], ◌++◌, length, drop, refl, sym, ap, ◌∙◌, arith}
use Rattle.std.specs.Prelude.{Bool, true, false, cond, ◌&&◌, ◌||◌, nat_lt, if◌then◌else◌, slice_index, Option, Some, None, is_some}
use Rattle.std.proofs.lemmas.Bool.{false≢true}
use Rattle.std.proofs.lemmas.Bool.Decides.{nat_tests}
use Rattle.std.proofs.lemmas.List.{append-nil}
use Rattle.std.proofs.lemmas.Option.{same_Some}
use mathlib.Core.Path.{fun_ext}
use Rattle.image_map.specs.declared.image.Image.{Image}
use Rattle.image_map.specs.declared.region.Kind.{Kind}
use Rattle.image_map.specs.declared.spans.Span.{Span}
use Rattle.image_map.specs.Ranges.{is_any}
use Rattle.item_list.specs.Ranges.{within}
use Rattle.image_map.specs.Whole.{IsImage}
use Rattle.ia32_types.specs.declared.Reg.{Reg}
use Rattle.ia32_types.specs.declared.Reg.TheVariants.{Eax, Ecx, Edx, Esp}
use Rattle.ia32_types.specs.declared.Flag.{Flag}
use Rattle.ia32_types.specs.declared.Flag.TheVariants.{Cf, Pf, Zf, Sf, Of}
use Rattle.ia32_types.specs.Numbers.{reg_number, flag_number, is_same_reg, is_same_flag}
use Rattle.ia32_types.proofs.NumberLemmas.{each_reg}
use Rattle.ia32_semantics.specs.State.{State, Location, InRegister, InFlag, AtByte}
use Rattle.ia32_semantics.specs.Reading.{outcome, asks, is_register}
use Rattle.ia32_semantics.specs.Effects.{effects_write, effects_take, effects_fit, at_byte, all_among, is_mapped}
use Rattle.ia32_semantics.specs.Outcome.{Outcome, made, is_possible, is_in_stack, is_below, is_forgotten, is_given, LiesWell}
use Rattle.ia32_semantics.specs.Outcome as out
use Rattle.ia32_semantics.specs.Rows.{risen}
use Rattle.ia32_semantics.specs.Externs.{extern_row}
use Rattle.ia32_semantics.specs.CallModel.{IsLaidOut}
use Rattle.ia32_semantics.specs.Step.{Act, Answers, Step, act_row, reads, writes, outcome_takes, outcome_writes, outcome_forgets}
use Rattle.ia32_semantics.proofs.EffectLemmas.{effects_map}
use Rattle.ia32_memory.specs.Mapped.{bytes_of}
use Rattle.ia32_plan.specs.declared.state.Core.{Core}
use Rattle.ia32_machine.specs.declared.touched.StepOut.{StepOut}
use Rattle.ia32_machine.specs.Steps.{performed}
use Rattle.ia32_machine.proofs.SpanLemmas.{end_low}
use Rattle.ia32_machine.proofs.PlaceLemmas.{mapped_low}
use Rattle.ia32_machine.proofs.WordLemmas.{more_words}
use Rattle.ia32_run.specs.Choices.{Spreads}
use Rattle.ia32_run.specs.Answers.{IsToldOf}
use Rattle.ia32_run.specs.Steps.{occurrence, IsDone, CantBeDone}
use Rattle.ia32_run.proofs.AnswerLemmas.{Needs}
use Rattle.ia32_run.proofs.ExternLemmas.{RowDone}

-- -- The state after an outcome, with 0 in what may be any

abbrev pub settled : Outcome → State → State
settled done s = record (made done s) { memory = λ a. if out.is_any done s a then Some 0 else (made done s).memory a }

pub record Stepped (image : Image) (act : Act) (choices : List ℕ) (s after : State) (done : Outcome) : Type 0 where
  pub step : Step image (occurrence act choices s after)
  pub is : step.done ≡ done
  pub zeros : (a : ℕ) → out.is_any step.done s a ≡ true → after.memory a ≡ Some 0

zero_byte : 0 < 256
zero_byte = omega arith

pub settled_steps : (image : Image) (act : Act) (choices : List ℕ) (s after : State) (done : Outcome) → outcome (act_row act) s choices ≡ Some (done, []) → is_possible image done s ≡ true
    → LiesWell s done.given → after ≡ settled done s → Stepped image act choices s after done
settled_steps image act choices s after done row possible lies is =
    let byte : (a : ℕ) → after.memory a ≡ (if out.is_any done s a then Some 0 else (made done s).memory a) = λ a. ap (λ (t : State). t.memory a) is in
    record {
      step = record {
        done = done;
        row = row;
        possible = possible;
        given = lies;
        after = is ∙ ap (λ m. record (made done s) { memory = m }) (sym (ap (λ (t : State). t.memory) is));
        memory = record {
          others = λ a bound. byte a ∙ ap (λ b. if b then Some 0 else (made done s).memory a) bound;
          free = λ a free. (0, zero_byte, byte a ∙ ap (λ b. if b then Some 0 else (made done s).memory a) free);
        };
      };
      is = refl;
      zeros = λ a free. byte a ∙ ap (λ b. if b then Some 0 else (made done s).memory a) free;
    }

pub settle_go : (mapped forgot given : Bool) (m : Option ℕ) → is_some m ≡ mapped → given ≡ false → cond (forgot && is_some m) (Some 0) m ≡ cond (cond mapped forgot given) (Some 0) m
settle_go true true given m e none = ap (λ b. cond b (Some 0) m) e
settle_go true false given m e none = refl
settle_go false true given m e none = ap (λ b. cond b (Some 0) m) e ∙ sym (ap (λ b. cond b (Some 0) m) none)
settle_go false false given m e none = sym (ap (λ b. cond b (Some 0) m) none)

-- where no block is given
pub performed_settles : (image : Image) (done : Outcome) (s : State) → done.given ≡ None → effects_fit image s.memory done.effects ≡ true → performed done s ≡ settled done s
performed_settles image done s none fits =
    let maps = effects_map image done.effects s fits in
    ap (λ m. record (made done s) { memory = m })
    (fun_ext (λ a. settle_go (is_some (s.memory a)) (is_forgotten done s a) (is_given done.given a) ((made done s).memory a) (maps.same a) (ap (λ (g : Option out.Given). is_given g a) none)))

-- -- What is read and written

or_none : (b : Bool) → (b || false) ≡ b
or_none true = refl
or_none false = refl

no_more : (b : Bool) → (b && false) ≡ false
no_more true = refl
no_more false = refl

-- an extern with these words and arguments answers in a state
pub record Answered (image : Image) (at : ℕ) (k : Kind) (words choices left : List ℕ) (core : Core) (out_ : StepOut) (s after : State) (bytes place : ℕ) (reads_all : Bool) (written : Span) (done : Outcome) : Type 0 where
  pub row : RowDone (extern_row at k) s choices bytes done
  pub spread : Spreads (Answers at k) s words left choices
  pub taken : left ≡ drop 8 words
  pub long : length words ≡ 8
  pub possible : is_possible image done s ≡ true
  pub lies : LiesWell s done.given
  pub is : after ≡ settled done s
  pub all : done.reads_all ≡ reads_all
  pub takes : (l : Location) → effects_take done.effects l ≡ false
  pub registers : (r : Reg) → effects_write done.effects (InRegister (reg_number r)) ≡ (((is_same_reg r Eax || is_same_reg r Ecx) || is_same_reg r Edx) || is_same_reg r Esp)
  pub flags : (f : Flag) → effects_write done.effects (InFlag (flag_number f)) ≡ ((((is_same_flag f Cf || is_same_flag f Pf) || is_same_flag f Zf) || is_same_flag f Sf) || is_same_flag f Of)
  pub bytes_written : (a : ℕ) → effects_write done.effects (AtByte a) ≡ within written.start written.end a
  pub forgets : done.forgets ≡ Some (risen (slice_index core.regs 4) 4)
  pub goes : after.eip ≡ place
  pub told : IsToldOf core bytes reads_all written place out_
  pub sp : s.registers 4 ≡ slice_index core.regs 4
  pub memory : (a : ℕ) → is_some (bytes_of core.memory a) ≡ is_some (s.memory a)
  pub some_bytes : all_among (is_mapped s.memory) (s.registers 4) bytes ≡ true
  pub more : ℕ
  pub bytes_are : bytes ≡ suc more

or_last : (b : Bool) → (b || true) ≡ true
or_last true = refl
or_last false = refl

low_go : (all mapped low w v : Bool) → (mapped ≡ true → low ≡ true) → w ≡ v → ((all && (mapped && low)) || w) ≡ (v || (all && mapped))
low_go true true low w v below same = ap (λ b. b || w) (below refl) ∙ sym (or_last v)
low_go true false low w v below same = same ∙ sym (or_none v)
low_go false mapped low w v below same = same ∙ sym (or_none v)

is_low : (a : ℕ) → a + 4 < 2 ^ 32 → nat_lt a (2 ^ 32 - 1) ≡ true
is_low a lt = grind (arith, nat_tests)

module _ (image : Image) (at : ℕ) (k : Kind) (words choices left : List ℕ) (core : Core) (out_ : StepOut) (s after : State) (bytes place : ℕ) (reads_all : Bool) (written : Span) (done : Outcome)
    (whole : IsImage image) (lies : IsLaidOut image s) (p : Answered image at k words choices left core out_ s after bytes place reads_all written done) where
  given : outcome (extern_row at k) s choices ≡ Some (done, [])
  given = ap (outcome (extern_row at k) s) (sym (append-nil choices)) ∙ p.row.given []

  asked : (l : Location) → asks (extern_row at k) s choices l ≡ (is_register 4 l || at_byte (within (s.registers 4) (s.registers 4 + bytes)) l)
  asked l = ap (λ c. asks (extern_row at k) s c l) (sym (append-nil choices)) ∙ p.row.asked [] l

  reads_are : (l : Location) → reads (occurrence (Answers at k) choices s after) l
      ≡ ((is_register 4 l || at_byte (within (s.registers 4) (s.registers 4 + bytes)) l) || (reads_all && at_byte (λ a. is_some (s.memory a)) l))
  reads_are l =
      ap (λ b. b || outcome_takes (outcome (extern_row at k) s choices) s l) (asked l)
      ∙ ap (λ r. (is_register 4 l || at_byte (within (s.registers 4) (s.registers 4 + bytes)) l) || outcome_takes r s l) given
      ∙ ap (λ b. (is_register 4 l || at_byte (within (s.registers 4) (s.registers 4 + bytes)) l) || (b || (done.reads_all && at_byte (λ a. is_some (s.memory a)) l))) (p.takes l)
      ∙ ap (λ b. (is_register 4 l || at_byte (within (s.registers 4) (s.registers 4 + bytes)) l) || (b && at_byte (λ a. is_some (s.memory a)) l)) p.all

  writes_are : (l : Location) → writes (occurrence (Answers at k) choices s after) l ≡ effects_write done.effects l
  writes_are l = ap (λ r. outcome_writes r l) given

  esp_read : (r : Reg) → is_same_reg r Esp ≡ (is_register 4 (InRegister (reg_number r)) || false)
  esp_read r = each_reg (λ r. is_same_reg r Esp ≡ (is_register 4 (InRegister (reg_number r)) || false)) refl refl refl refl refl refl refl refl r

  end_is : (s.registers 4 + bytes) % 2 ^ 32 ≡ s.registers 4 + bytes
  end_is = let fits = end_low (is_mapped s.memory) (mapped_low image s whole lies) (s.registers 4) bytes p.more p.bytes_are p.some_bytes in omega arith

  bytes_read : (a : ℕ) → is_any out_.reads.bytes.items a ≡ (within (s.registers 4) (s.registers 4 + bytes) a || (reads_all && is_some (s.memory a)))
  bytes_read a =
      p.told.read_bytes a
      ∙ ap (λ m. (reads_all && (m && nat_lt a (2 ^ 32 - 1))) || within (slice_index core.regs 4) ((slice_index core.regs 4 + bytes) % 2 ^ 32) a) (p.memory a)
      ∙ ap (λ n. (reads_all && (is_some (s.memory a) && nat_lt a (2 ^ 32 - 1))) || within n ((n + bytes) % 2 ^ 32) a) (sym p.sp)
      ∙ low_go reads_all (is_some (s.memory a)) (nat_lt a (2 ^ 32 - 1)) (within (s.registers 4) ((s.registers 4 + bytes) % 2 ^ 32) a) (within (s.registers 4) (s.registers 4 + bytes) a)
      (λ mapped. is_low a (mapped_low image s whole lies a mapped)) (ap (λ e. within (s.registers 4) e a) end_is)

  pub answer_is_done : IsDone image (Answers at k) words out_ s after
  answer_is_done =
      let st = settled_steps image (Answers at k) choices s after done given p.possible p.lies p.is in
      record {
        choices = choices;
        left = left;
        spread = p.spread;
        step = st.step;
        zeros = st.zeros;
        reads = record {
          registers = λ r. p.told.read_registers r ∙ esp_read r ∙ sym (or_none (is_register 4 (InRegister (reg_number r)) || false))
              ∙ sym (ap (λ b. (is_register 4 (InRegister (reg_number r)) || false) || b) (no_more reads_all)) ∙ sym (reads_are (InRegister (reg_number r)));
          flags = λ f. p.told.read_flags f ∙ sym (no_more reads_all) ∙ sym (reads_are (InFlag (flag_number f)));
          bytes = λ a. bytes_read a ∙ sym (reads_are (AtByte a));
        };
        writes = record {
          registers = λ r. p.told.written_registers r ∙ sym (p.registers r) ∙ sym (writes_are (InRegister (reg_number r)));
          flags = λ f. p.told.written_flags f ∙ sym (p.flags f) ∙ sym (writes_are (InFlag (flag_number f)));
          bytes = λ a. p.told.written_bytes a ∙ sym (p.bytes_written a) ∙ sym (writes_are (AtByte a));
        };
        forgets = λ a. ap (λ r. outcome_forgets r s (AtByte a)) given ∙ ap (λ (limit : Option ℕ). is_in_stack s.slot a && is_below limit a) (p.forgets ∙ sym p.told.forgets);
        next = p.goes ∙ sym p.told.next;
        few = (let long = p.long in let used = p.told.used in omega arith);
        taken = p.taken ∙ ap (λ n. drop n words) (sym p.told.used);
      }

-- -- Where it can't be done

pub cant_unmapped : (image : Image) (at : ℕ) (k : Kind) (words : List ℕ) (s : State) (n : ℕ) → Needs (extern_row at k) s (s.registers 4) n
    → all_among (is_mapped s.memory) (s.registers 4) n ≡ false → CantBeDone image (Answers at k) words s
cant_unmapped image at k words s n needs unmapped rest left choices after spread = λ st.
    false≢true (sym unmapped ∙ needs.mapped choices [] st.done st.row)

-- all that is left of the words takes these to an outcome that can't be
pub cant_happen : (image : Image) (act : Act) (s : State) (choices : List ℕ) (after : State) (done : Outcome) → outcome (act_row act) s choices ≡ Some (done, []) → is_possible image done s ≡ false
    → ¬ Step image (occurrence act choices s after)
cant_happen image act s choices after done is impossible = λ st.
    let same : done ≡ st.done = ap (λ (r : Outcome × List ℕ). r.0) (same_Some (done, []) (st.done, []) (sym is ∙ st.row)) in
    false≢true (sym impossible ∙ ap (λ d. is_possible image d s) same ∙ st.possible)

-- where the words are taken as they are
pub cant_with : (image : Image) (act : Act) (s : State) (words rest left choices : List ℕ) (after : State) (done : Outcome) → outcome (act_row act) s (words ++ rest) ≡ Some (done, rest)
    → is_possible image done s ≡ false → words ++ rest ≡ choices ++ left → ¬ Step image (occurrence act choices s after)
cant_with image act s words rest left choices after done is impossible same = λ st.
    let all : outcome (act_row act) s (words ++ rest) ≡ Some (st.done, left) = ap (outcome (act_row act) s) same ∙ more_words (act_row act) s choices left [] st.done st.row in
    let one : done ≡ st.done = ap (λ (r : Outcome × List ℕ). r.0) (same_Some (done, rest) (st.done, left) (sym is ∙ all)) in
    false≢true (sym impossible ∙ ap (λ d. is_possible image d s) one ∙ st.possible)

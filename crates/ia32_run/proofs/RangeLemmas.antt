-- The words of arguments, and what the machine keeps while an extern answers.
use Rattle.std.proofs.Common.{◌≡◌, ◌⊎◌, inl, inr, ℕ, zero, suc, ◌+◌, ◌-◌, ◌*◌, ◌<◌, ◌≤◌, ◌^◌, ◌%◌, List, [], ◌∷◌, ◌++◌, length, drop, replicate, refl, sym, ap, ◌∙◌, subst, arith, length-append}
use Rattle.std.specs.Prelude.{Bool, true, false, ◌==◌, max, slice_index, Option, Some, None, is_some, Result, Ok, Err, IfOk}
use Rattle.std.proofs.lemmas.Bool.{false≢true}
use Rattle.std.proofs.lemmas.Bool.Decides.{nat_tests}
use Rattle.std.proofs.lemmas.Option.{none-some}
use Rattle.image_map.specs.declared.image.Image.{Image}
use Rattle.image_map.specs.declared.region.Block.{Block}
use Rattle.ia32_types.specs.declared.Instr.{Instr}
use Rattle.ia32_semantics.specs.State.{State, Bytes, word_at}
use Rattle.ia32_semantics.specs.Effects.{all_among, is_mapped, is_open, overwritten}
use Rattle.ia32_semantics.specs.Outcome.{IsBlock, is_in_stack, can_move, leaves}
use Rattle.ia32_semantics.specs.CallModel.{IsLaidOut}
use Rattle.ia32_semantics.specs.Step.{Executes}
use Rattle.ia32_semantics.specs.Externs.{answered}
use Rattle.ia32_semantics.proofs.EffectLemmas.{by_test, and_left, and_right, overwritten_maps}
use Rattle.std.proofs.lemmas.Bool.{and_from}
use Rattle.ia32_memory.specs.Mapped.{Mapped, bytes_of, is_open_at, is_in_first}
use Rattle.image_map.specs.Shapes.{shapes}
use Rattle.ia32_memory.specs.Changes.{all_in_elements, filled_over}
use Rattle.ia32_memory.proofs.ShapeLaws.{same_first}
use Rattle.ia32_machine.specs.declared.touched.StepOut.{StepOut}
use Rattle.ia32_machine.specs.declared.machine.Machine.{Machine}
use Rattle.ia32_machine.specs.Machines.{state_of, RunsImage}
use Rattle.ia32_machine.specs.Opens.{KnowsOpen}
use Rattle.ia32_machine.specs.Steps.{IsExecuted, Faults, performed}
use Rattle.ia32_machine.proofs.SpanLemmas.{AreLow, end_low}
use Rattle.ia32_machine.proofs.StepLemmas.{knows_after, performed_maps}
use Rattle.ia32_run.specs.Choices.{base_given, fill_byte}
use Rattle.ia32_run.specs.Answers.{results_of, with_given}
use Rattle.ia32_run.specs.Steps.{IsDone, CantBeDone}
use Rattle.ia32_run.proofs.AnswerLemmas.{has_number, first_of, rest_of}
use Rattle.ia32_run.proofs.AllocLemmas.{base_is_block}
use Rattle.ia32_run.proofs.FillLemmas.{Filled, all_elements, elements_all, fill_is_over, filled_same, first_is, same_bytes}
use Rattle.ia32_run.proofs.FaultLemmas.{faults_with_all}
use Rattle.ia32_run.proofs.PlainLemmas.{with_memory}
use mathlib.Core.Path.{fun_ext}

-- -- Arguments

-- an argument's word, which ends before the addresses end
record Argument (m : Bytes) (sp k : ℕ) : Type 0 where
  value : ℕ
  is : word_at m (sp + 4 * k) ≡ Some value
  low : sp + 4 * k < 2 ^ 32

there : (m : Bytes) → AreLow (is_mapped m) → (sp n k : ℕ) → all_among (is_mapped m) sp (4 + 4 * n) ≡ true → k ≤ n → Argument m sp k
there m low sp n k mapped le =
    let long : 4 + 4 * n ≡ 4 * k + (4 + (4 * n - 4 * k)) = omega arith in
    let rest = rest_of (is_mapped m) sp (4 * k) (4 + (4 * n - 4 * k)) (ap (all_among (is_mapped m) sp) (sym long) ∙ mapped) in
    let word = first_of (is_mapped m) (sp + 4 * k) 4 (4 * n - 4 * k) rest in
    let has = has_number (with_memory m) 4 (sp + 4 * k) word in
    let end = end_low (is_mapped m) low (sp + 4 * k) 4 3 refl word in
    record { value = has.number; is = has.is; low = omega arith }

pub argument_missing : (m : Bytes) → AreLow (is_mapped m) → (sp n k : ℕ) → k ≤ n → (◌≡◌ {A = Option ℕ} None (word_at m ((sp + 4 * k) % 2 ^ 32))) → all_among (is_mapped m) sp (4 + 4 * n) ≡ false
argument_missing m low sp n k le none =
    by_test (all_among (is_mapped m) sp (4 + 4 * n))
    (λ mapped. let arg = there m low sp n k mapped le in let lt = arg.low in let same : (sp + 4 * k) % 2 ^ 32 ≡ sp + 4 * k = omega arith in
    absurd (none-some arg.value (none ∙ ap (word_at m) same ∙ arg.is)))
    (λ unmapped. unmapped)

pub argument_found : (m : Bytes) → AreLow (is_mapped m) → (sp n k v : ℕ) → all_among (is_mapped m) sp (4 + 4 * n) ≡ true → k ≤ n → Some v ≡ word_at m ((sp + 4 * k) % 2 ^ 32) → word_at m (sp + 4 * k) ≡ Some v
argument_found m low sp n k v mapped le is =
    let arg = there m low sp n k mapped le in let lt = arg.low in let same : (sp + 4 * k) % 2 ^ 32 ≡ sp + 4 * k = omega arith in
    ap (word_at m) (sym same) ∙ sym is

-- -- Blocks

pub block_fits : (blocks old new : List Block) (slot old_slot word size site base : ℕ) → base ≡ base_given blocks word size → blocks ≡ old → new ≡ old → slot ≡ old_slot → old_slot ≡ 0xBFF0000C
    → (base ≡ 0) ⊎ IsBlock slot new (record { site = site; base = base; size = size })
block_fits blocks old new slot old_slot word size site base is same kept same_slot entry =
    by_test (base == 0)
    (λ none. inl (let e : (base == 0) ≡ true = none in grind (arith, nat_tests)))
    (λ some. inr (subst (λ k. IsBlock k new (record { site = site; base = base; size = size })) (sym (same_slot ∙ entry))
    (subst (λ bs. IsBlock 0xBFF0000C bs (record { site = site; base = base; size = size })) (same ∙ sym kept) (base_is_block blocks word size site base (sym is) some))))

-- -- The machine runs on

pub knows_on : (image : Image) (old new : Machine) (words : List ℕ) (sp place : ℕ) → RunsImage image old → shapes new.core.memory ≡ shapes old.core.memory
    → state_of new ≡ performed (answered (results_of words) sp place) (state_of old) → KnowsOpen image new.core.memory
knows_on image old new words sp place runs same is =
    knows_after image old.core.memory new.core.memory runs.knows same
    (λ a. ap (λ (t : State). is_some (t.memory a)) is ∙ performed_maps image (answered (results_of words) sp place) (state_of old) a refl)

pub given_slot : (zero : Bool) (at site base size : ℕ) (s after : State) → after ≡ with_given zero at site base size s → after.slot ≡ s.slot
given_slot true at site base size s after is = ap (λ (t : State). t.slot) is
given_slot false at site base size s after is = ap (λ (t : State). t.slot) is

pub alloc_runs : (image : Image) (old mid new : Machine) → RunsImage image old → shapes mid.core.memory ≡ shapes old.core.memory → ((a : ℕ) → is_in_first new.core.memory a ≡ is_in_first mid.core.memory a)
    → new.slot ≡ old.slot → KnowsOpen image new.core.memory → IsLaidOut image (state_of new) → RunsImage image new
alloc_runs image old mid new runs same first slot knows lies = record {
  laid_out = lies;
  knows = knows;
  stack = λ a. first a ∙ same_first mid.core.memory old.core.memory same a ∙ runs.stack a ∙ ap (λ n. is_in_stack n a) (sym slot);
}

-- -- What may be written

open_low : (image : Image) (m : Bytes) → AreLow (is_mapped m) → AreLow (is_open image m)
open_low image m low a e = low a (and_left (is_some (m a)) _ e)

pub range_closed : (image : Image) (memory : Mapped) (n a : ℕ) → KnowsOpen image memory → AreLow (is_mapped (bytes_of memory)) → all_in_elements (is_open_at memory) false 1 n a ≡ false
    → all_among (is_open image (bytes_of memory)) a n ≡ false
range_closed image memory n a knows low closed =
    by_test (all_among (is_open image (bytes_of memory)) a n)
    (λ all. absurd (false≢true (sym closed ∙ ap (λ test. all_in_elements test false 1 n a) (fun_ext knows.opens)
    ∙ all_elements (is_open image (bytes_of memory)) (open_low image (bytes_of memory) low) n a all)))
    (λ none. none)

pub range_opened : (image : Image) (memory : Mapped) (n a : ℕ) → KnowsOpen image memory → AreLow (is_mapped (bytes_of memory)) → a < 2 ^ 32 → all_in_elements (is_open_at memory) false 1 n a ≡ true
    → all_among (is_open image (bytes_of memory)) a n ≡ true
range_opened image memory n a knows low fits opened =
    elements_all (is_open image (bytes_of memory)) (open_low image (bytes_of memory) low) n a fits (ap (λ test. all_in_elements test false 1 n a) (sym (fun_ext knows.opens)) ∙ opened)

pub open_mapped : (image : Image) (m : Bytes) (n a : ℕ) → all_among (is_open image m) a n ≡ true → all_among (is_mapped m) a n ≡ true
open_mapped image m zero a e = refl
open_mapped image m (suc n) a e =
    and_from (is_mapped m a) (all_among (is_mapped m) (a + 1) n) (and_left (is_some (m a)) _ (and_left (is_open image m a) _ e))
    (open_mapped image m n (a + 1) (and_right (is_open image m a) _ e))

pub range_end : (m : Bytes) (n a : ℕ) → AreLow (is_mapped m) → a < 2 ^ 32 → all_among (is_mapped m) a n ≡ true → a + n < 2 ^ 32
range_end m zero a low fits mapped = omega arith
range_end m (suc n) a low fits mapped = end_low (is_mapped m) low a (suc n) n refl mapped

all_alike : (p q : ℕ → Bool) (a n : ℕ) → ((x : ℕ) → p x ≡ q x) → all_among p a n ≡ true → all_among q a n ≡ true
all_alike p q a zero same e = refl
all_alike p q a (suc n) same e = and_from (q a) (all_among q (a + 1) n) (sym (same a) ∙ and_left (p a) _ e) (all_alike p q (a + 1) n same (and_right (p a) _ e))

-- -- A range was filled

-- what is known before and after
pub record Filling (image : Image) (words : List ℕ) (buffer len to count place : ℕ) (s filled after : State) : Type 0 where
  pub long : length words ≡ 8
  pub some_buffer : 1 ≤ buffer
  pub some_len : 1 ≤ len
  pub low : AreLow (is_mapped s.memory)
  pub mapped : all_among (is_mapped s.memory) (s.registers 4) (4 + 4 * max buffer len) ≡ true
  pub to_is : word_at s.memory (s.registers 4 + 4 * buffer) ≡ Some to
  pub count_is : word_at s.memory (s.registers 4 + 4 * len) ≡ Some count
  pub opened : all_among (is_open image s.memory) to count ≡ true
  pub moves : can_move leaves s.activations ≡ true
  pub filled_is : filled ≡ record s { memory = filled_over false 1 (fill_byte (slice_index words 0)) count to s.memory }
  pub place_is : Some place ≡ word_at filled.memory (s.registers 4)
  pub is : after ≡ performed (answered (results_of words) (s.registers 4) place) filled
  pub fits : place < 2 ^ 32
  pub to_fits : to < 2 ^ 32

module _ (image : Image) (words : List ℕ) (buffer len to count place : ℕ) (s filled after : State) (f : Filling image words buffer len to count place s filled after) where
  abbrev w : ℕ
  w = fill_byte (slice_index words 0)

  mapped : all_among (is_mapped s.memory) to count ≡ true
  mapped = open_mapped image s.memory count to f.opened

  over : filled.memory ≡ overwritten s.memory to (replicate count w)
  over = ap (λ (t : State). t.memory) f.filled_is ∙ fill_is_over count to s.memory w f.low mapped

  pub filled_known : Filled image words buffer len to count place s after
  filled_known = record {
    is_fill = record {
      long = f.long;
      mapped = f.mapped;
      some_buffer = f.some_buffer;
      some_len = f.some_len;
      to_is = f.to_is;
      count_is = f.count_is;
      place_is = ap (λ (m : Bytes). word_at m (s.registers 4)) (sym over) ∙ sym f.place_is;
    };
    opened = f.opened;
    moves = f.moves;
    is = f.is ∙ ap (performed (answered (results_of words) (s.registers 4) place)) (f.filled_is ∙ ap (λ (m : Bytes). record s { memory = m }) (fill_is_over count to s.memory w f.low mapped));
    fits = f.fits;
    to_fits = range_end s.memory count to f.low f.to_fits mapped;
    first = first_is words f.long;
  }

  pub filled_maps : (a : ℕ) → is_some (filled.memory a) ≡ is_some (s.memory a)
  filled_maps a = ap (λ (m : Bytes). is_some (m a)) over ∙ (overwritten_maps image s.memory to (replicate count w) (same_bytes (is_open image s.memory) to count w ∙ f.opened)).same a

  pub after_maps : (a : ℕ) → is_some (after.memory a) ≡ is_some (s.memory a)
  after_maps a = ap (λ (t : State). is_some (t.memory a)) f.is ∙ performed_maps image (answered (results_of words) (s.registers 4) place) filled a refl ∙ filled_maps a

  pub after_slot : after.slot ≡ s.slot
  after_slot = ap (λ (t : State). t.slot) f.is ∙ ap (λ (t : State). t.slot) f.filled_is

-- the return word is still there
pub filled_place : (m : Bytes) (sp n to count v : ℕ) → AreLow (is_mapped m) → all_among (is_mapped m) sp (4 + n) ≡ true → all_among (is_mapped m) to count ≡ true
    → ◌≡◌ {A = Option ℕ} None (word_at (filled_over false 1 v count to m) sp) → ⊥
filled_place m sp n to count v low mapped range none =
    let has = has_number (with_memory (filled_over false 1 v count to m)) 4 sp (all_alike (is_mapped m) (is_mapped (filled_over false 1 v count to m)) sp 4 (λ a. sym (filled_same count to m v a low range)) (first_of (is_mapped m) sp 4 n mapped)) in
    none-some has.number (none ∙ has.is)

-- -- Instructions

pub if_ok : {A E : Type 0} (r : Result A E) (P Q : A → Type 0) → ((x : A) → P x → Q x) → IfOk r P → IfOk r Q
if_ok (Ok x) P Q f p = f x p
if_ok (Err e) P Q f p = tt

drop_front : (xs ys : List ℕ) → drop (length xs) (xs ++ ys) ≡ ys
drop_front [] ys = refl
drop_front (x ∷ xs) ys = drop_front xs ys

pub executed_is_done : (image : Image) (i : Instr) (words : List ℕ) (out : StepOut) (s after : State) → IsExecuted image i words out s after → IsDone image (Executes i) words out s after
executed_is_done image i words out s after e = record {
  choices = e.used;
  left = e.left;
  spread = e.are;
  step = e.step;
  zeros = e.zeros;
  reads = e.reads;
  writes = e.writes;
  forgets = e.forgets;
  next = e.next;
  few = (let count = e.count in let long : length words ≡ length e.used + length e.left = ap length e.are ∙ length-append e.used e.left in omega arith);
  taken = sym (ap (λ n. drop n words) e.count ∙ ap (drop (length e.used)) e.are ∙ drop_front e.used e.left);
}

pub fault_cant : (image : Image) (i : Instr) (words : List ℕ) (s : State) → length words ≡ 8 → Faults image i words s → CantBeDone image (Executes i) words s
fault_cant image i words s long faults rest left choices after spread = faults_with_all image i s after words rest choices left long spread faults

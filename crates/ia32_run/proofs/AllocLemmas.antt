-- An extern allocates.
use Rattle.std.proofs.Common.{◌≡◌, inl, inr, ℕ, suc, ◌+◌, ◌*◌, ◌/◌, ◌<◌, ◌≤◌, ◌^◌, ◌%◌, List, [], ◌∷◌, ◌++◌, length, refl, sym, ap, ◌∙◌, subst, arith}
use Rattle.std.specs.Prelude.{Bool, true, false, cond, not, ◌&&◌, ◌||◌, ◌==◌, nat_le, if◌then◌else◌, slice_index, Option, Some, None, is_some}
use Rattle.std.specs.List.{list_any}
use Rattle.std.proofs.lemmas.Bool.{false≢true}
use Rattle.std.proofs.lemmas.Bool.Decides.{nat_tests}
use Rattle.std.proofs.lemmas.List.{append-nil}
use mathlib.Core.Path.{fun_ext}
use Rattle.image_map.specs.declared.image.Image.{Image}
use Rattle.image_map.specs.declared.region.Block.{Block}
use Rattle.image_map.specs.declared.region.Kind.TheVariants as kind
use Rattle.item_list.specs.Ranges.{within}
use Rattle.image_map.specs.Whole.{IsImage}
use Rattle.ia32_semantics.specs.State.{State, newest_site, word_at}
use Rattle.ia32_semantics.specs.Effects.{all_among, is_mapped}
use Rattle.ia32_semantics.specs.Reading.{outcome}
use Rattle.ia32_semantics.specs.Outcome.{Outcome, made, can_move, leaves, is_in_block, is_forgotten, IsBlock, LiesWell}
use Rattle.ia32_semantics.specs.Operands.{is_set}
use Rattle.ia32_semantics.specs.Externs.{answered, extern_row, allocator}
use Rattle.ia32_semantics.specs.CallModel.{IsLaidOut}
use Rattle.ia32_semantics.specs.Step.{Answers}
use Rattle.ia32_semantics.proofs.EffectLemmas.{effects_map, and_right}
use Rattle.ia32_semantics.proofs.StepLemmas.{steps_stay_laid_out}
use Rattle.ia32_memory.specs.Mapped.{bytes_of}
use Rattle.ia32_plan.specs.declared.state.Core.{Core}
use Rattle.ia32_machine.specs.declared.touched.StepOut.{StepOut}
use Rattle.ia32_machine.specs.Steps.{performed}
use Rattle.ia32_run.specs.Choices.{heap_end, next_base, base_given}
use Rattle.ia32_run.specs.Answers.{results_of, others_of, alloc_done, with_given, IsToldOf}
use Rattle.ia32_run.specs.Steps.{occurrence, IsDone, CantBeDone}
use Rattle.ia32_run.proofs.AnswerLemmas.{Needs}
use Rattle.ia32_run.proofs.ExternLemmas.{RowDone, alloc_is, alloc_needs}
use Rattle.ia32_run.proofs.SettledLemmas.{settled, settled_steps, settle_go, answer_is_done, cant_unmapped, cant_happen}
use Rattle.ia32_run.proofs.HeapLemmas.{end_low}
use Rattle.ia32_run.proofs.PlainLemmas.{registers_written, flags_written, none_within, drop_long}

-- -- The block lies well

is_apart : (blocks : List Block) (a : ℕ) → heap_end blocks ≤ a → list_any (is_in_block a) blocks ≡ false
unfolding heap_end
is_apart [] a above = refl
is_apart (block ∷ others) a above =
    let out : is_in_block a block ≡ false = grind (arith, nat_tests) in
    ap (λ b. b || list_any (is_in_block a) others) out ∙ is_apart others a (omega arith)

given_go : (b : Bool) (next base : ℕ) → (if b then next else 0) ≡ base → (base == 0) ≡ false → (b ≡ true) × (next ≡ base)
given_go true next base e some = (refl, e)
given_go false next base e some = absurd (false≢true (sym some ∙ ap (λ n. n == 0) (sym e)))

pub base_is_block : (blocks : List Block) (word size site base : ℕ) → base_given blocks word size ≡ base → (base == 0) ≡ false → IsBlock 0xBFF0000C blocks (record { site = site; base = base; size = size })
base_is_block blocks word size site base is some =
    let e = given_go (is_set word && nat_le (next_base blocks + size) 0xB0000000) (next_base blocks) base is some in
    let room : nat_le (next_base blocks + size) 0xB0000000 ≡ true = and_right (is_set word) _ e.0 in
    let fits : next_base blocks + size ≤ 0xB0000000 = grind (arith, nat_tests) in
    let same : next_base blocks ≡ base = e.1 in
    let low = end_low blocks in
    record {
      aligned = ap (λ n. n % 16) (sym same) ∙ multiple (heap_end blocks + 15);
      above = omega arith;
      below = omega arith;
      far = λ a there. (let f : is_in_block a (record { site = site; base = base; size = size }) ≡ true = there in let lt : a < base + size = grind (arith, nat_tests) in inl (omega arith));
      apart = λ a there. (let f : is_in_block a (record { site = site; base = base; size = size }) ≡ true = there in let ge : base ≤ a = grind (arith, nat_tests) in is_apart blocks a (omega arith));
    }
  where
    multiple : (n : ℕ) → n / 16 * 16 % 16 ≡ 0
    multiple n = omega arith

-- -- The state after it

memory_go : (mapped forgot in_block given : Bool) (m : Option ℕ) → is_some m ≡ mapped → given ≡ in_block
    → cond (is_some (cond (forgot && is_some m) (Some 0) m)) (cond (forgot && is_some m) (Some 0) m) (cond in_block (Some 0) None) ≡ cond (cond mapped forgot given) (Some 0) m
memory_go true true in_block given (Some b) e same = refl
memory_go true false in_block given (Some b) e same = refl
memory_go true forgot in_block given None e same = absurd (false≢true e)
memory_go false forgot in_block given (Some b) e same = absurd (false≢true (sym e))
memory_go false true true given None e same = sym (ap (λ b. cond b (Some 0) None) same)
memory_go false true false given None e same = sym (ap (λ b. cond b (Some 0) None) same)
memory_go false false true given None e same = sym (ap (λ b. cond b (Some 0) None) same)
memory_go false false false given None e same = sym (ap (λ b. cond b (Some 0) None) same)

module _ (image : Image) (at : ℕ) (choices : List ℕ) (place size : ℕ) (s : State) where
  abbrev given : Outcome
  given = alloc_done at (results_of choices) (s.registers 4) place size

  abbrev plain : Outcome
  plain = answered (results_of choices) (s.registers 4) place

  abbrev base : ℕ
  base = slice_index choices 0

  abbrev site : ℕ
  site = newest_site s.activations

  maps : (a : ℕ) → is_some ((made given s).memory a) ≡ is_some (s.memory a)
  maps a = (effects_map image given.effects s refl).same a

  pub given_settles : (zero : Bool) → (base == 0) ≡ zero → with_given zero at site base size (performed plain s) ≡ settled given s
  given_settles true is =
      ap (λ m. record (made given s) { memory = m; blocks = s.blocks })
      (fun_ext (λ a. settle_go (is_some (s.memory a)) (is_forgotten given s a) (not (base == 0) && is_in_block a (record { site = 0; base = base; size = size })) ((made given s).memory a) (maps a)
      (ap (λ b. not b && is_in_block a (record { site = 0; base = base; size = size })) is)))
      ∙ ap (λ b. record (settled given s) { blocks = if b then s.blocks else s.blocks ++ (record { site = site; base = base; size = size } ∷ []) }) (sym is)
  given_settles false is =
      ap (λ m. record (made given s) { memory = m; blocks = s.blocks ++ (record { site = site; base = base; size = size } ∷ []) })
      (fun_ext (λ a. memory_go (is_some (s.memory a)) (is_forgotten given s a) (within base (base + size) a) (not (base == 0) && is_in_block a (record { site = 0; base = base; size = size })) ((made given s).memory a) (maps a)
      (ap (λ b. not b && is_in_block a (record { site = 0; base = base; size = size })) is)))
      ∙ ap (λ b. record (settled given s) { blocks = if b then s.blocks else s.blocks ++ (record { site = site; base = base; size = size } ∷ []) }) (sym is)

-- -- It answers

eight_are : (words : List ℕ) → length words ≡ 8
    → words ≡ slice_index words 0 ∷ slice_index words 1 ∷ slice_index words 2 ∷ slice_index words 3 ∷ slice_index words 4 ∷ slice_index words 5 ∷ slice_index words 6 ∷ slice_index words 7 ∷ []
eight_are (a ∷ b ∷ c ∷ d ∷ e ∷ f ∷ g ∷ h ∷ []) long = refl
eight_are (a ∷ b ∷ c ∷ d ∷ e ∷ f ∷ g ∷ h ∷ i ∷ more) long = absurd (omega arith)
eight_are (a ∷ b ∷ c ∷ d ∷ e ∷ f ∷ g ∷ []) long = absurd (omega arith)
eight_are (a ∷ b ∷ c ∷ d ∷ e ∷ f ∷ []) long = absurd (omega arith)
eight_are (a ∷ b ∷ c ∷ d ∷ e ∷ []) long = absurd (omega arith)
eight_are (a ∷ b ∷ c ∷ d ∷ []) long = absurd (omega arith)
eight_are (a ∷ b ∷ c ∷ []) long = absurd (omega arith)
eight_are (a ∷ b ∷ []) long = absurd (omega arith)
eight_are (a ∷ []) long = absurd (omega arith)
eight_are [] long = absurd (omega arith)

pub first_others : (words : List ℕ) → length words ≡ 8 → words ≡ slice_index words 0 ∷ others_of words
first_others words long = eight_are words long

same_row : (at : ℕ) → allocator at ≡ extern_row at kind.Alloc
unfolding extern_row
same_row at = refl

-- what is known once it has answered
pub record Allocates (words : List ℕ) (at place size base : ℕ) (s after : State) : Type 0 where
  pub long : length words ≡ 8
  pub mapped : all_among (is_mapped s.memory) (s.registers 4) 8 ≡ true
  pub place_is : word_at s.memory (s.registers 4) ≡ Some place
  pub size_is : word_at s.memory (s.registers 4 + 4) ≡ Some size
  pub moves : can_move leaves s.activations ≡ true
  pub base_is : base ≡ base_given s.blocks (slice_index words 0) size
  pub slot : s.slot ≡ 0xBFF0000C
  pub is : after ≡ with_given (base == 0) at (newest_site s.activations) base size (performed (answered (results_of (base ∷ others_of words)) (s.registers 4) place) s)
  pub fits : place < 2 ^ 32

module _ (image : Image) (at : ℕ) (words : List ℕ) (place size base : ℕ) (s after : State) (p : Allocates words at place size base s after) where
  abbrev choices : List ℕ
  choices = base ∷ others_of words

  abbrev done : Outcome
  done = alloc_done at (results_of choices) (s.registers 4) place size

  row : RowDone (extern_row at kind.Alloc) s choices 8 done
  row = subst (λ t. RowDone t s choices 8 done) (same_row at) (alloc_is at s choices place size refl p.mapped p.place_is p.size_is)

  settles : after ≡ settled done s
  settles = p.is ∙ given_settles image at choices place size s (base == 0) refl

  lies_well : (zero : Bool) → (base == 0) ≡ zero → LiesWell s done.given
  lies_well true e = inl (zero_is base e)
    where
      zero_is : (n : ℕ) → (n == 0) ≡ true → n ≡ 0
      zero_is n e = grind (arith, nat_tests)
  lies_well false e = inr (subst (λ k. IsBlock k s.blocks (record { site = newest_site s.activations; base = base; size = size })) (sym p.slot)
      (base_is_block s.blocks (slice_index words 0) size (newest_site s.activations) base (sym p.base_is) e))

  pub alloc_is_done : (core : Core) (out_ : StepOut) → IsImage image → IsLaidOut image s → s.registers 4 ≡ slice_index core.regs 4 → ((a : ℕ) → is_some (bytes_of core.memory a) ≡ is_some (s.memory a))
      → IsToldOf core 8 false (record { start = 0; end = 0 }) place out_ → IsDone image (Answers at kind.Alloc) words out_ s after
  alloc_is_done core out_ whole lies sp memory told =
      answer_is_done image at kind.Alloc words choices [] core out_ s after 8 place false (record { start = 0; end = 0 }) done whole lies
      (record {
        row = row;
        spread = (slice_index words 0, others_of words, size, p.size_is, refl, first_others words p.long ∙ sym (append-nil (slice_index words 0 ∷ others_of words)), ap (λ b. b ∷ others_of words) p.base_is);
        taken = sym (drop_long 8 words (let long = p.long in omega arith));
        long = p.long;
        possible = p.moves;
        lies = lies_well (base == 0) refl;
        is = settles;
        all = refl;
        takes = λ l. refl;
        registers = λ r. registers_written r 0 choices (s.registers 4) place;
        flags = λ f. flags_written f choices (s.registers 4) place;
        bytes_written = λ a. none_within a;
        forgets = ap (λ n. Some ((n + 4) % 2 ^ 32)) sp;
        goes = (let fits = p.fits in let cut : place % 2 ^ 32 ≡ place = omega arith in ap (λ (t : State). t.eip) settles ∙ cut);
        told = told;
        sp = sp;
        memory = memory;
        some_bytes = p.mapped;
        more = 7;
        bytes_are = refl;
      })

  pub alloc_laid_out : IsLaidOut image s → IsLaidOut image after
  alloc_laid_out lies =
      let st = settled_steps image (Answers at kind.Alloc) choices s after done (ap (outcome (extern_row at kind.Alloc) s) (sym (append-nil choices)) ∙ row.given []) p.moves (lies_well (base == 0) refl) settles in
      steps_stay_laid_out image (occurrence (Answers at kind.Alloc) choices s after) st.step lies

-- -- It can't

pub alloc_unmapped : (image : Image) (at : ℕ) (words : List ℕ) (s : State) → all_among (is_mapped s.memory) (s.registers 4) 8 ≡ false → CantBeDone image (Answers at kind.Alloc) words s
alloc_unmapped image at words s unmapped =
    cant_unmapped image at kind.Alloc words s 8 (subst (λ t. Needs t s (s.registers 4) 8) (same_row at) (alloc_needs at s)) unmapped

pub alloc_stays : (image : Image) (at : ℕ) (words : List ℕ) (s : State) (place size : ℕ) → all_among (is_mapped s.memory) (s.registers 4) 8 ≡ true
    → word_at s.memory (s.registers 4) ≡ Some place → word_at s.memory (s.registers 4 + 4) ≡ Some size → can_move leaves s.activations ≡ false → CantBeDone image (Answers at kind.Alloc) words s
alloc_stays image at words s place size mapped is_place is_size stays rest left choices after (first, others, size_, is_size_, seven, are, spread) =
    let long : length choices ≡ 8 = ap length spread ∙ ap (λ n. suc n) seven in
    let row = subst (λ t. RowDone t s choices 8 (alloc_done at (results_of choices) (s.registers 4) place size)) (same_row at) (alloc_is at s choices place size long mapped is_place is_size) in
    cant_happen image (Answers at kind.Alloc) s choices after (alloc_done at (results_of choices) (s.registers 4) place size) (ap (outcome (extern_row at kind.Alloc) s) (sym (append-nil choices)) ∙ row.given []) stays

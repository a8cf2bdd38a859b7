-- An extern fills a range of memory with one byte.
use Rattle.std.proofs.Common.{◌≡◌, ℕ, zero, suc, ◌+◌, ◌*◌, ◌<◌, ◌≤◌, ◌^◌, ◌%◌, List, [], ◌∷◌, ◌++◌, length, drop, replicate, refl, sym, ap, ◌∙◌, subst, arith}
use Rattle.std.specs.Prelude.{Bool, true, false, cond, ◌&&◌, ◌||◌, ◌==◌, max, slice_index, Option, Some, is_some}
use Rattle.std.proofs.lemmas.Bool.{false≢true}
use Rattle.std.proofs.lemmas.Bool.Decides.{nat_tests}
use Rattle.std.proofs.lemmas.List.{append-nil}
use Rattle.std.proofs.lemmas.Option.{same_Some}
use mathlib.Core.Path.{fun_ext}
use Rattle.image_map.specs.declared.image.Image.{Image}
use Rattle.image_map.specs.declared.spans.Span.{Span}
use Rattle.image_map.specs.declared.region.Kind.TheVariants as kind
use Rattle.item_list.specs.Ranges.{within}
use Rattle.image_map.specs.Whole.{IsImage}
use Rattle.ia32_types.specs.declared.Reg.TheVariants.{Eax, Ecx, Edx, Esp}
use Rattle.ia32_types.specs.declared.Flag.TheVariants.{Cf, Pf, Zf, Sf, Of}
use Rattle.ia32_types.specs.Numbers.{reg_number, flag_number, is_same_reg, is_same_flag}
use Rattle.ia32_types.proofs.NumberLemmas.{each_reg, each_flag}
use Rattle.ia32_semantics.specs.State.{State, Bytes, InRegister, InFlag, word_at}
use Rattle.ia32_semantics.specs.Effects.{effects_write, all_among, all_of_bytes, is_mapped, is_open, is_among, is_of_bytes, overwritten}
use Rattle.ia32_semantics.specs.Reading.{outcome}
use Rattle.ia32_semantics.specs.Outcome.{Outcome, is_possible, can_move, leaves}
use Rattle.ia32_semantics.specs.Operands.{number_bytes}
use Rattle.ia32_semantics.specs.Strings.{stepped}
use Rattle.ia32_semantics.specs.Externs.{answered, extern_row, filler}
use Rattle.ia32_semantics.specs.CallModel.{IsLaidOut}
use Rattle.ia32_semantics.specs.Step.{Answers}
use Rattle.ia32_semantics.proofs.EffectLemmas.{by_test, and_left, and_right, all_among_same}
use Rattle.std.proofs.lemmas.Bool.{and_from}
use Rattle.ia32_semantics.proofs.StepLemmas.{steps_stay_laid_out}
use Rattle.ia32_memory.specs.Mapped.{bytes_of}
use Rattle.ia32_memory.specs.Changes.{with_bytes, filled_over, all_in_elements}
use Rattle.ia32_memory.proofs.WrittenLaws.{with_bytes_maps}
use Rattle.ia32_plan.specs.declared.state.Core.{Core}
use Rattle.ia32_machine.specs.declared.touched.StepOut.{StepOut}
use Rattle.ia32_machine.specs.Steps.{performed}
use Rattle.ia32_machine.proofs.SpanLemmas.{AreLow, here_or, among_within}
use Rattle.ia32_run.specs.Choices.{fill_byte}
use Rattle.ia32_run.specs.Answers.{results_of, fill_done, IsToldOf}
use Rattle.ia32_run.specs.Steps.{occurrence, IsDone, CantBeDone}
use Rattle.ia32_run.proofs.AnswerLemmas.{Needs, first_of}
use Rattle.ia32_run.proofs.ExternLemmas.{RowDone, over_is, Fills, fill_is, fill_needs}
use Rattle.ia32_run.proofs.SettledLemmas.{settled, settled_steps, performed_settles, answer_is_done, cant_unmapped, cant_happen}
use Rattle.ia32_run.proofs.PlainLemmas.{drop_long}

-- -- One byte in a range

step_one : (a : ℕ) → a + 1 < 2 ^ 32 → stepped false 1 1 a ≡ a + 1
unfolding stepped
step_one a low = omega arith

-- elements of one byte each
pub elements_all : (test : ℕ → Bool) → AreLow test → (n a : ℕ) → a < 2 ^ 32 → all_in_elements test false 1 n a ≡ true → all_among test a n ≡ true
unfolding all_in_elements
elements_all test low zero a fits e = refl
elements_all test low (suc n) a fits e =
    let here : test a ≡ true = and_left (test a) true (and_left (all_among test a 1) _ e) in
    let near = low a here in
    and_from (test a) (all_among test (a + 1) n) here
    (elements_all test low n (a + 1) (omega arith) (ap (all_in_elements test false 1 n) (sym (step_one a (omega arith))) ∙ and_right (all_among test a 1) _ e))

pub all_elements : (test : ℕ → Bool) → AreLow test → (n a : ℕ) → all_among test a n ≡ true → all_in_elements test false 1 n a ≡ true
unfolding all_in_elements
all_elements test low zero a e = refl
all_elements test low (suc n) a e =
    let here = and_left (test a) _ e in
    let near = low a here in
    and_from (all_among test a 1) (all_in_elements test false 1 n (stepped false 1 1 a)) (and_from (test a) true here refl)
    (ap (all_in_elements test false 1 n) (step_one a (omega arith)) ∙ all_elements test low n (a + 1) (and_right (test a) _ e))

pub same_bytes : (test : ℕ → Bool) (a n v : ℕ) → all_of_bytes test a (replicate n v) ≡ all_among test a n
same_bytes test a zero v = refl
same_bytes test a (suc n) v = ap (λ b. test a && b) (same_bytes test (a + 1) n v)

of_same : (a n v x : ℕ) → is_of_bytes a (replicate n v) x ≡ is_among a n x
of_same a zero v x = refl
of_same a (suc n) v x = ap (λ b. a == x || b) (of_same (a + 1) n v x)

over_go : (here rest whole : Bool) (v w : Option ℕ) → (here || rest) ≡ whole → cond here v (cond rest v w) ≡ cond whole v w
over_go true rest whole v w e = ap (λ b. cond b v w) e
over_go false rest whole v w e = ap (λ b. cond b v w) e

-- the bytes of a range replaced, the last first
over_same : (m : Bytes) (a n v x : ℕ) → overwritten m a (replicate n v) x ≡ cond (within a (a + n) x) (Some (v % 256)) (m x)
over_same m a zero v x = let none : false ≡ within a (a + 0) x = grind (arith, nat_tests) in ap (λ b. cond b (Some (v % 256)) (m x)) none
over_same m a (suc n) v x =
    let more : a + 1 + n ≡ a + suc n = omega arith in
    ap (λ o. cond (a == x) (Some (v % 256)) o) (over_same m (a + 1) n v x)
    ∙ over_go (a == x) (within (a + 1) (a + 1 + n) x) (within a (a + suc n) x) (Some (v % 256)) (m x) (ap (λ e. a == x || within (a + 1) e x) more ∙ here_or a (a + suc n) x (omega arith))

fill_go : (here rest whole : Bool) (v w m : Option ℕ) → (here || rest) ≡ whole → (here ≡ true → is_some m ≡ true) → w ≡ cond (here && is_some m) v m → cond rest v w ≡ cond whole v m
fill_go true true whole v w m e there is = ap (λ b. cond b v m) e
fill_go true false whole v w m e there is = is ∙ ap (λ b. cond b v m) (there refl) ∙ ap (λ b. cond b v m) e
fill_go false true whole v w m e there is = ap (λ b. cond b v m) e
fill_go false false whole v w m e there is = is ∙ ap (λ b. cond b v m) e

-- and the first first, where they are mapped
fill_same : (n a : ℕ) (m : Bytes) (v x : ℕ) → AreLow (is_mapped m) → all_among (is_mapped m) a n ≡ true → filled_over false 1 v n a m x ≡ cond (within a (a + n) x) (Some (v % 256)) (m x)
unfolding filled_over
fill_same zero a m v x low mapped = let none : false ≡ within a (a + 0) x = grind (arith, nat_tests) in ap (λ b. cond b (Some (v % 256)) (m x)) none
fill_same (suc n) a m v x low mapped =
    let here = and_left (is_mapped m a) _ mapped in
    let near = low a here in
    let next = with_bytes m a (number_bytes 1 v) in
    let maps : (y : ℕ) → is_mapped (with_bytes m a (number_bytes 1 v)) y ≡ is_mapped m y = λ y. with_bytes_maps m a (number_bytes 1 v) y in
    let low_next : AreLow (is_mapped (with_bytes m a (number_bytes 1 v))) = λ y e. low y (sym (maps y) ∙ e) in
    let more : a + 1 + n ≡ a + suc n = omega arith in
    let twice : v % 256 % 256 ≡ v % 256 = omega arith in
    ap (λ b. filled_over false 1 v n b (with_bytes m a (number_bytes 1 v)) x) (step_one a (omega arith))
    ∙ fill_same n (a + 1) (with_bytes m a (number_bytes 1 v)) v x low_next (all_among_same _ (is_mapped m) (a + 1) n maps ∙ and_right (is_mapped m a) _ mapped)
    ∙ fill_go (a == x) (within (a + 1) (a + 1 + n) x) (within a (a + suc n) x) (Some (v % 256)) (with_bytes m a (number_bytes 1 v) x) (m x)
    (ap (λ e. a == x || within (a + 1) e x) more ∙ here_or a (a + suc n) x (omega arith))
    (λ e. let same : a ≡ x = grind (arith, nat_tests) in ap (is_mapped m) (sym same) ∙ here)
    (ap (λ b. cond (a == x && is_some (m x)) (Some b) (m x)) twice)

pub fill_is_over : (n a : ℕ) (m : Bytes) (v : ℕ) → AreLow (is_mapped m) → all_among (is_mapped m) a n ≡ true → filled_over false 1 v n a m ≡ overwritten m a (replicate n v)
fill_is_over n a m v low mapped = fun_ext (λ x. fill_same n a m v x low mapped ∙ sym (over_same m a n v x))

pub filled_same : (n a : ℕ) (m : Bytes) (v x : ℕ) → AreLow (is_mapped m) → all_among (is_mapped m) a n ≡ true → is_mapped (filled_over false 1 v n a m) x ≡ is_mapped m x
filled_same n a m v x low mapped = ap is_some (fill_same n a m v x low mapped) ∙ kept_go (within a (a + n) x) (λ there. mapped_in n a x mapped there)
  where
    kept_go : (b : Bool) → (b ≡ true → is_mapped m x ≡ true) → is_some (cond b (Some (v % 256)) (m x)) ≡ is_mapped m x
    kept_go true there = sym (there refl)
    kept_go false there = refl

    mapped_in : (n a x : ℕ) → all_among (is_mapped m) a n ≡ true → within a (a + n) x ≡ true → is_mapped m x ≡ true
    mapped_in zero a x e there = absurd (let f : within a (a + 0) x ≡ false = grind (arith, nat_tests) in false≢true (sym f ∙ there))
    mapped_in (suc n) a x e there =
        by_test (a == x)
        (λ same. let is : a ≡ x = grind (arith, nat_tests) in ap (is_mapped m) (sym is) ∙ and_left (is_mapped m a) _ e)
        (λ other. mapped_in n (a + 1) x (and_right (is_mapped m a) _ e) (grind (arith, nat_tests)))

-- -- It answers

same_row : (at buffer len : ℕ) → filler buffer len ≡ extern_row at (kind.Fills buffer len)
unfolding extern_row
same_row at buffer len = refl

or_none : (b : Bool) → (b || false) ≡ b
or_none true = refl
or_none false = refl

-- what is known once it has answered
pub record Filled (image : Image) (words : List ℕ) (buffer len to count place : ℕ) (s after : State) : Type 0 where
  pub is_fill : Fills s words buffer len to count (fill_byte (slice_index words 0)) place
  pub opened : all_among (is_open image s.memory) to count ≡ true
  pub moves : can_move leaves s.activations ≡ true
  pub is : after ≡ performed (answered (results_of words) (s.registers 4) place) (record s { memory = overwritten s.memory to (replicate count (fill_byte (slice_index words 0))) })
  pub fits : place < 2 ^ 32
  pub to_fits : to + count < 2 ^ 32
  pub first : words ≡ slice_index words 0 ∷ drop 1 words

tail_long : (words : List ℕ) → length words ≡ 8 → length (drop 1 words) ≡ 7
tail_long [] long = absurd (omega arith)
tail_long (w ∷ words) long = omega arith

pub first_is : (words : List ℕ) → length words ≡ 8 → words ≡ slice_index words 0 ∷ drop 1 words
first_is [] long = absurd (omega arith)
first_is (w ∷ words) long = refl

module _ (image : Image) (at : ℕ) (words : List ℕ) (buffer len to count place : ℕ) (s after : State) (p : Filled image words buffer len to count place s after) where
  abbrev w : ℕ
  w = fill_byte (slice_index words 0)

  abbrev choices : List ℕ
  choices = words ++ (count ∷ replicate count w)

  abbrev done : Outcome
  done = fill_done (results_of words) (s.registers 4) to (replicate count w) place

  row : RowDone (extern_row at (kind.Fills buffer len)) s choices (4 + 4 * max buffer len) done
  row = subst (λ t. RowDone t s choices (4 + 4 * max buffer len) done) (same_row at buffer len) (fill_is s words buffer len to count w place p.is_fill)

  opened_bytes : all_of_bytes (is_open image s.memory) to (replicate count w) ≡ true
  opened_bytes = same_bytes (is_open image s.memory) to count w ∙ p.opened

  possible : is_possible image done s ≡ true
  possible = and_from (all_of_bytes (is_open image s.memory) to (replicate count w) && true) (can_move leaves s.activations) (and_from _ true opened_bytes refl) p.moves

  settles : after ≡ settled done s
  settles = p.is ∙ performed_settles image done s refl (and_from (all_of_bytes (is_open image s.memory) to (replicate count w)) true opened_bytes refl)

  abbrev span : Span
  span = record { start = to; end = (to + count) % 2 ^ 32 }

  pub fill_is_done : (core : Core) (out_ : StepOut) → IsImage image → IsLaidOut image s → s.registers 4 ≡ slice_index core.regs 4 → ((a : ℕ) → is_some (bytes_of core.memory a) ≡ is_some (s.memory a))
      → IsToldOf core (4 + 4 * max buffer len) false span place out_ → IsDone image (Answers at (kind.Fills buffer len)) words out_ s after
  fill_is_done core out_ whole lies sp memory told =
      answer_is_done image at (kind.Fills buffer len) words choices [] core out_ s after (4 + 4 * max buffer len) place false span done whole lies
      (record {
        row = row;
        spread = (
          slice_index words 0,
          drop 1 words,
          count,
          p.is_fill.count_is,
          tail_long words p.is_fill.long,
          p.first ∙ sym (append-nil (slice_index words 0 ∷ drop 1 words)),
          ap (λ (l : List ℕ). l ++ (count ∷ replicate count w)) p.first,
        );
        taken = sym (drop_long 8 words (let long = p.is_fill.long in omega arith));
        long = p.is_fill.long;
        possible = possible;
        lies = tt;
        is = settles;
        all = refl;
        takes = λ l. refl;
        registers = λ r. each_reg (λ r. effects_write done.effects (InRegister (reg_number r)) ≡ (((is_same_reg r Eax || is_same_reg r Ecx) || is_same_reg r Edx) || is_same_reg r Esp)) refl refl refl refl refl refl refl refl r;
        flags = λ f. each_flag (λ f. effects_write done.effects (InFlag (flag_number f)) ≡ ((((is_same_flag f Cf || is_same_flag f Pf) || is_same_flag f Zf) || is_same_flag f Sf) || is_same_flag f Of)) refl refl refl refl refl refl f;
        bytes_written = λ a. or_none (is_of_bytes to (replicate count w) a) ∙ of_same to count w a ∙ among_within to count a
            ∙ ap (λ e. within to e a) (let fits = p.to_fits in let cut : to + count ≡ (to + count) % 2 ^ 32 = omega arith in cut);
        forgets = ap (λ n. Some ((n + 4) % 2 ^ 32)) sp;
        goes = (let fits = p.fits in let cut : place % 2 ^ 32 ≡ place = omega arith in ap (λ (t : State). t.eip) p.is ∙ cut);
        told = told;
        sp = sp;
        memory = memory;
        some_bytes = p.is_fill.mapped;
        more = 3 + 4 * max buffer len;
        bytes_are = omega arith;
      })

  pub fill_laid_out : IsLaidOut image s → IsLaidOut image after
  fill_laid_out lies =
      let st = settled_steps image (Answers at (kind.Fills buffer len)) choices s after done (ap (outcome (extern_row at (kind.Fills buffer len)) s) (sym (append-nil choices)) ∙ row.given []) possible tt settles in
      steps_stay_laid_out image (occurrence (Answers at (kind.Fills buffer len)) choices s after) st.step lies

-- -- It can't

pub fill_unmapped : (image : Image) (at buffer len : ℕ) (words : List ℕ) (s : State) → all_among (is_mapped s.memory) (s.registers 4) (4 + 4 * max buffer len) ≡ false
    → CantBeDone image (Answers at (kind.Fills buffer len)) words s
fill_unmapped image at buffer len words s unmapped =
    cant_unmapped image at (kind.Fills buffer len) words s (4 + 4 * max buffer len) (subst (λ t. Needs t s (s.registers 4) (4 + 4 * max buffer len)) (same_row at buffer len) (fill_needs buffer len s)) unmapped

pub same_front : (xs ys rest left : List ℕ) → length xs ≡ length ys → xs ++ rest ≡ ys ++ left → xs ≡ ys
same_front [] [] rest left long e = refl
same_front [] (y ∷ ys) rest left long e = absurd (omega arith)
same_front (x ∷ xs) [] rest left long e = absurd (omega arith)
same_front (x ∷ xs) (y ∷ ys) rest left long e =
    let one : x ≡ y = ap (λ l. slice_index l 0) e in
    ap (λ z. z ∷ xs) one ∙ ap (λ l. y ∷ l) (same_front xs ys rest left (omega arith) (ap (λ l. drop 1 l) e))

never_go : (opened moves : Bool) → (opened && moves) ≡ false → ((opened && true) && moves) ≡ false
never_go true moves e = e
never_go false moves e = refl

-- the range isn't open, or no activation is left
pub fill_impossible : (image : Image) (at buffer len : ℕ) (words : List ℕ) (s : State) (to count : ℕ) → length words ≡ 8 → 1 ≤ buffer → 1 ≤ len
    → all_among (is_mapped s.memory) (s.registers 4) (4 + 4 * max buffer len) ≡ true
    → word_at s.memory (s.registers 4 + 4 * buffer) ≡ Some to → word_at s.memory (s.registers 4 + 4 * len) ≡ Some count
    → (all_among (is_open image s.memory) to count && can_move leaves s.activations) ≡ false → CantBeDone image (Answers at (kind.Fills buffer len)) words s
fill_impossible image at buffer len words s to count long some_buffer some_len mapped is_to is_count never rest left choices after (first, others, count_, is_count_, seven, are, spread) = λ st.
    let front : words ≡ first ∷ others = same_front words (first ∷ others) rest left (long ∙ sym (ap (λ n. suc n) seven)) are in
    let same : count_ ≡ count = same_Some count_ count (sym is_count_ ∙ is_count) in
    let over = over_is s to (replicate count (fill_byte first)) 4 (s.registers 4) (first_of (is_mapped s.memory) (s.registers 4) 4 (4 * max buffer len) mapped) in
    let f : Fills s (first ∷ others) buffer len to count (fill_byte first) over.number
    = record { long = ap (λ n. suc n) seven; mapped = mapped; some_buffer = some_buffer; some_len = some_len; to_is = is_to; count_is = is_count; place_is = over.is } in
    let row = fill_is s (first ∷ others) buffer len to count (fill_byte first) over.number f in
    let done = fill_done (results_of (first ∷ others)) (s.registers 4) to (replicate count (fill_byte first)) over.number in
    let taken : choices ≡ ((first ∷ others) ++ (count ∷ replicate count (fill_byte first))) ++ []
    = spread ∙ ap (λ n. (first ∷ others) ++ (n ∷ replicate n (fill_byte first))) same ∙ sym (append-nil ((first ∷ others) ++ (count ∷ replicate count (fill_byte first)))) in
    let given : outcome (extern_row at (kind.Fills buffer len)) s choices ≡ Some (done, [])
    = ap (λ t. outcome t s choices) (sym (same_row at buffer len)) ∙ ap (outcome (filler buffer len) s) taken ∙ row.given [] in
    cant_happen image (Answers at (kind.Fills buffer len)) s choices after done given
    (never_go (all_of_bytes (is_open image s.memory) to (replicate count (fill_byte first))) (can_move leaves s.activations)
    (ap (λ b. b && can_move leaves s.activations) (same_bytes (is_open image s.memory) to count (fill_byte first)) ∙ never)) st

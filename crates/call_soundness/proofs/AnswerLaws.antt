-- What an extern that returns reads and does, by its kind: bytes may be written, EAX, ECX, EDX and the flags take any values, a block may
-- be given, and the return word is popped.
use Rattle.std.proofs.Common.{◌≡◌, ◌⊎◌, inl, inr, ℕ, zero, suc, ◌+◌, ◌-◌, ◌*◌, ◌%◌, ◌^◌, ◌<◌, ◌≤◌, ◌==◌, Bool, true, false, cond, List, [], ◌∷◌, ◌++◌, length, Option, Some, None, refl, ◌∙◌, ap, subst, arith, lit<, pos, eqb-true}
use Rattle.std.specs.Prelude.{nat_lt, max, ◌+ℤ◌, is_some}
use Rattle.std.specs.Option.{option_map}
use Rattle.std.proofs.lemmas.Int.{ints}
use Rattle.std.proofs.lemmas.Bool.{false≢true, and_parts, ltb-false, eqb-false}
use Rattle.std.proofs.Math.Nat.{pos_of_ne-zero, le-max_left, le-max_right, max-le}
use Rattle.std.proofs.lemmas.Option.{none-some, same_Some}
use Rattle.image_map.specs.declared.image.Image.{Image}
use Rattle.image_map.specs.declared.region.Activation.{Activation}
use Rattle.image_map.specs.declared.region.Kind.{Kind}
use Rattle.image_map.specs.declared.region.Kind.TheVariants as kind
use Rattle.image_map.specs.CallModel.{IsKind}
use Rattle.ia32_types.specs.declared.Width.TheVariants.{D32}
use Rattle.ia32_semantics.specs.CallModel.{AreActivations}
use Rattle.ia32_semantics.specs.Division.{division_flags}
use Rattle.ia32_semantics.specs.Effects.{Effect, stores, changed, all_changed, overwritten, is_open, all_of_bytes, is_of_bytes, effects_fit, effects_write, effects_take}
use Rattle.ia32_semantics.specs.Externs as externs
use Rattle.ia32_semantics.specs.Externs.{Results, any_results, words_from, any_words, any_prefix, byte_over, number_over, nth_of, result_effects}
use Rattle.ia32_semantics.specs.Operands as machine_operands
use Rattle.ia32_semantics.specs.Operands.{stored_word, any_word}
use Rattle.ia32_semantics.specs.Outcome.{Outcome, Given}
use Rattle.ia32_semantics.specs.Rows as rows
use Rattle.ia32_semantics.specs.State.{State, Bytes, AtByte, bytes_at, joined, little_endian, word_at}
use Rattle.ia32_semantics.proofs.EffectLemmas.{or_true, over_byte, overwritten_maps, overwritten_below, overwritten_other}
use Rattle.alocs.specs.Cells.{Division}
use Rattle.strided.specs.Interval.{Interval}
use Rattle.vset.specs.Values.{CanonicalValues, only_number}
use Rattle.vset.specs.Members.{HasValue}
use Rattle.abs_semantics.specs.declared.parts.RangeValue.TheVariants as range
use Rattle.abs_semantics.specs.States.{AbsState, HasCanonical}
use Rattle.abs_semantics.specs.StandsFor.{world_of}
use Rattle.abs_semantics.specs.Ownership.{IsKnown, IsRange}
use Rattle.abs_semantics.proofs.FirstLemmas.{bytes_mapped}
use Rattle.abs_semantics.proofs.StackLemmas.{base_bounds}
use Rattle.abs_steps.specs.Accesses.{access, range_of, argument_at, arguments_read, words_read, extern_reads, argument, filled_count, extern_writes}
use Rattle.abs_steps.specs.Effects.{AbsEffect, fills, all_done}
use Rattle.abs_steps.specs.Externs.{fill_effects}
use Rattle.abs_steps.specs.Rows.{view_of}
use Rattle.abs_steps.specs.Strings.{bytes_of}
use Rattle.abs_steps.specs.Successors.{stack_offset, is_at_slot}
use Rattle.step_soundness.specs.Accessed.{IsNear, IsAccessed}
use Rattle.step_soundness.proofs.FillLaws.{near_range, fills_since, if_counted_is}
use Rattle.step_soundness.proofs.FlagLaws.{AreDrawn, flags_drawn}
use Rattle.step_soundness.proofs.GivenLaws.{Gives, gives_bind, gives_this, gives_none, gives_register, gives_byte, gives_choice, gives_if, gives_more}
use Rattle.step_soundness.proofs.PointerLaws.{raised_has}
use Rattle.step_soundness.proofs.SinceLaws.{Since, since_itself}
use Rattle.step_soundness.proofs.StackRows.{number_gives}
use Rattle.step_soundness.proofs.ValueForms.{stored_form}
use Rattle.step_soundness.proofs.WriteLaws.{AreQuiet, or_end}
use Rattle.call_soundness.specs.Externs.{returns_from, is_reader}
use Rattle.call_soundness.proofs.BackLaws.{is_zero}
use Rattle.call_soundness.proofs.LeaveLaws.{word_gives}
use Rattle.call_soundness.proofs.StackLaws.{esp_near}

-- -- Bytes that were stored

-- the number that they make where others were stored over them
over_gives : (s : State) (R : ℕ → Type 0) (to : ℕ) (bytes : List ℕ) (n a : ℕ) → ((k : ℕ) → k < n → R (a + k))
    → Gives s R (λ v. option_map little_endian (bytes_at (overwritten s.memory to bytes) a n) ≡ Some v) (number_over to bytes n a)
unfolding number_over bytes_at little_endian
over_gives s R to bytes zero a there = gives_this s R _ 0 refl
over_gives s R to bytes (suc n) a there =
    let none : a + 0 ≡ a = omega arith in
    gives_byte s R _ a _ (subst R none (there 0 (omega arith))) (λ old is.
    gives_bind s R (λ v. option_map little_endian (bytes_at (overwritten s.memory to bytes) (a + 1) n) ≡ Some v) _ (number_over to bytes n (a + 1)) _
    (over_gives s R to bytes n (a + 1) (λ k lt. subst R (let e : a + suc k ≡ a + 1 + k = omega arith in e) (there (suc k) (omega (arith, lt))))) (λ rest e.
    gives_this s R _ (byte_over to bytes a old + 256 * rest) (more (overwritten s.memory to bytes a) (over_byte s.memory to a old bytes is) (bytes_at (overwritten s.memory to bytes) (a + 1) n) rest e)))
  where
    more : {b : ℕ} (x : Option ℕ) → x ≡ Some b → (o : Option (List ℕ)) (v : ℕ) → option_map little_endian o ≡ Some v → option_map little_endian (joined x o) ≡ Some (b + 256 * v)
    more None e o v f = absurd (none-some _ e)
    more (Some c) e None v f = absurd (none-some _ f)
    more (Some c) e (Some rest) v f = (λ i. Some (same_Some _ _ e i + 256 * same_Some _ _ f i))

-- -- Bytes of choice

words_long : (s : State) (R : ℕ → Type 0) (n : ℕ) → Gives s R (λ (ws : List ℕ). length ws ≡ n) (any_words n)
unfolding any_words any_word
words_long s R zero = gives_this s R _ [] refl
words_long s R (suc n) =
    gives_choice s R _ _ (λ w. gives_bind s R (λ (ws : List ℕ). length ws ≡ n) _ (any_words n) _ (words_long s R n) (λ ws e. gives_this s R _ (w ∷ ws) (ap suc e)))

prefix_short : (s : State) (R : ℕ → Type 0) (most : ℕ) → Gives s R (λ (ws : List ℕ). length ws ≤ most) (any_prefix most)
unfolding any_prefix any_word
prefix_short s R most =
    gives_choice s R _ _ (λ n. gives_if s R _ (nat_lt most n) _ _ (λ above. gives_none s R _)
    (λ within. let le : n ≤ most = ltb-false most n within in
    gives_more s R R (λ (ws : List ℕ). length ws ≡ n) _ (any_words n) (λ at r. r) (λ ws e. omega (arith, le, e)) (words_long s R n)))

results_any : (s : State) (R : ℕ → Type 0) → Gives s R (λ r. Unit {0}) any_results
unfolding any_results any_word
results_any s R =
    gives_choice s R _ _ (λ eax. gives_choice s R _ _ (λ ecx. gives_choice s R _ _ (λ edx.
    gives_bind s R (AreDrawn division_flags) _ (machine_operands.any_flags division_flags) _ (flags_drawn s R division_flags) (λ flags h. gives_this s R _ _ tt))))

-- stored bytes lie from an address on
bytes_near : (at : ℕ) (bytes : List ℕ) (x : ℕ) → is_of_bytes at bytes x ≡ true → (at ≤ x) × (x < at + length bytes)
bytes_near at [] x e = absurd (false≢true e)
bytes_near at (b ∷ bytes) x e =
    or_true (at == x) _ e
    (λ f. let same : at ≡ x = eqb-true at x f in (omega (arith, same), omega (arith, same)))
    (λ f. let rest : (at + 1 ≤ x) × (x < at + 1 + length bytes) = bytes_near (at + 1) bytes x f in (omega (arith, rest), omega (arith, rest)))

not_near : (at : ℕ) (bytes : List ℕ) (x : ℕ) → (x < at) ⊎ (at + length bytes ≤ x) → is_of_bytes at bytes x ≡ false
not_near at bytes x far = by (is_of_bytes at bytes x) refl
  where
    apart : (at ≤ x) × (x < at + length bytes) → (x < at) ⊎ (at + length bytes ≤ x) → ⊥
    apart in_ (inl low) = omega (arith, in_, low)
    apart in_ (inr high) = omega (arith, in_, high)

    by : (b : Bool) → is_of_bytes at bytes x ≡ b → b ≡ false
    by true e = absurd (apart (bytes_near at bytes x e) far)
    by false e = refl

each_open : (test : ℕ → Bool) (at : ℕ) (bytes : List ℕ) → all_of_bytes test at bytes ≡ true → (k : ℕ) → k < length bytes → test (at + k) ≡ true
each_open test at [] e k lt = absurd (omega (arith, lt))
each_open test at (b ∷ bytes) e zero lt = subst (λ x. test x ≡ true) (let same : at ≡ at + 0 = omega arith in same) (and_parts (test at) (all_of_bytes test (at + 1) bytes) e).0
each_open test at (b ∷ bytes) e (suc k) lt =
    subst (λ x. test x ≡ true) (let same : at + 1 + k ≡ at + suc k = omega arith in same) (each_open test (at + 1) bytes (and_parts (test at) (all_of_bytes test (at + 1) bytes) e).1 k (omega (arith, lt)))

-- -- At an extern

module _ (image : Image) (lane p : ℕ) (a : AbsState) (s : State) (d : Division) (known_ : IsKnown image lane a p s) (form : HasCanonical a) (at_slot : is_at_slot p a ≡ true) where
  -- the stack pointer is that with which the activation began
  pub sp_is : s.registers 4 ≡ known_.newest.base
  sp_is =
      let e : pos (s.registers 4) ≡ pos known_.newest.base +ℤ pos 0 =
      esp_near image lane p a s known_ form (pos 0) (is_zero (stack_offset p a) at_slot) (omega (arith, ints)) (omega (arith, ints)) in
      omega (arith, ints)

  chain : AreActivations image s.memory s.slot (known_.newest ∷ known_.others)
  chain = subst (AreActivations image s.memory s.slot) known_.activations known_.whole.activations

  -- arguments don't wrap
  pub sp_low : s.registers 4 + 36 < 4294967296
  sp_low =
      let high : known_.newest.base ≤ s.slot = (base_bounds image s.memory s.slot known_.newest known_.others chain).0 in
      let under : s.slot + 2 ^ 16 ≤ 0xC0000000 = known_.whole.laid_out.slot.below in
      let sp : s.registers 4 ≡ known_.newest.base = sp_is in
      omega (arith, high, under, sp)

  slot_is : (xs : List Activation) → AreActivations image s.memory s.slot (known_.newest ∷ xs) → (place : ℕ) × (word_at s.memory known_.newest.base ≡ Some place)
  slot_is [] is = (_, ap (word_at s.memory) is.0 ∙ is.1)
  slot_is (x ∷ xs) is = (is.2.0, is.2.2)

  slot_bytes : (o : Option (List ℕ)) → bytes_at s.memory (s.registers 4) 4 ≡ o → (place : ℕ) → option_map little_endian o ≡ Some place → (k : ℕ) → k < 4 → is_some (s.memory (s.registers 4 + k)) ≡ true
  slot_bytes None is place e = absurd (none-some _ e)
  slot_bytes (Some bytes) is place e = bytes_mapped s.memory (s.registers 4) 4 bytes is

  held_sp : HasValue lane (world_of s) (s.registers 4) (a.registers 4)
  held_sp = known_.stands.registers 4 (lit< tt)

  -- the return word
  pub slot_range : IsRange lane s (a.registers 4) (s.registers 4) 4 4
  slot_range =
      let slot = slot_is known_.others chain in
      record {
        word = known_.whole.laid_out.sized.registers 4;
        member = held_sp;
        some = omega arith;
        within = omega arith;
        mapped = slot_bytes (bytes_at s.memory (s.registers 4) 4) refl slot.0 (ap (word_at s.memory) sp_is ∙ slot.1);
      }

  slot_near : (k : ℕ) → k < 4 → IsNear lane s (a.registers 4) 4 (s.registers 4 + k)
  slot_near k lt = near_range lane s (a.registers 4) (s.registers 4) 4 4 (s.registers 4 + k) slot_range (omega arith, omega (arith, lt))

  -- -- Arguments

  argument_member : (j : ℕ) → j ≤ 8 → HasValue lane (world_of s) (s.registers 4 + 4 * j) (argument_at a j)
  argument_member j few =
      let low = sp_low in
      let plain : (s.registers 4 + 4 * j) % 4294967296 ≡ s.registers 4 + 4 * j = omega (arith, low, few) in
      subst (λ n. HasValue lane (world_of s) n (argument_at a j)) plain (raised_has lane (world_of s) (a.registers 4) (form.registers 4) (s.registers 4) held_sp (4 * j) (omega (arith, few)))

  argument_gives : (R : ℕ → Type 0) (j : ℕ) → j ≤ 8 → ((byte : ℕ) → IsNear lane s (argument_at a j) 4 byte → R byte)
      → Gives s R (λ n. HasValue lane (world_of s) n (argument (view_of a d p) j) × (n < 4294967296)) (stored_word (s.registers 4 + 4 * j))
  argument_gives R j few there =
      let low = sp_low in
      number_gives image lane p a s d known_ form R D32 (s.registers 4 + 4 * j) (argument_at a j) (omega (arith, low, few)) (argument_member j few) there

  -- words that are arguments from one on
  abbrev AreArguments : ℕ → ℕ → List ℕ → Type 0
  AreArguments n from ws = (j : ℕ) → j < n → HasValue lane (world_of s) (nth_of j ws) (argument (view_of a d p) (from + j)) × (nth_of j ws < 4294967296)

  words_give : (n from : ℕ) → from + n ≤ 9 → Gives s (IsAccessed lane s (arguments_read a n from)) (AreArguments n from) (words_from (s.registers 4 + 4 * from) n)
  unfolding words_from
  words_give zero from few = gives_this s (IsAccessed lane s []) _ [] (λ j lt. absurd (omega (arith, lt)))
  words_give (suc n) from few =
      let R = IsAccessed lane s (arguments_read a (suc n) from) in
      let next : s.registers 4 + 4 * (from + 1) ≡ s.registers 4 + 4 * from + 4 = omega arith in
      gives_bind s R _ _ (stored_word (s.registers 4 + 4 * from)) _ (argument_gives R from (omega (arith, few)) (λ byte near. inl near)) (λ first h.
      gives_bind s R (AreArguments n (from + 1)) _ (words_from (s.registers 4 + 4 * from + 4) n) _
      (subst (λ at. Gives s R (AreArguments n (from + 1)) (words_from at n)) next
      (gives_more s (IsAccessed lane s (arguments_read a n (from + 1))) R (AreArguments n (from + 1)) (AreArguments n (from + 1)) (words_from (s.registers 4 + 4 * (from + 1)) n) (λ at r. inr r) (λ ws k. k)
      (words_give n (from + 1) (omega (arith, few))))) (λ others k.
      gives_this s R _ (first ∷ others) (each first others h k)))
    where
      each : (first : ℕ) (others : List ℕ) → HasValue lane (world_of s) first (argument (view_of a d p) from) × (first < 4294967296) → AreArguments n (from + 1) others → AreArguments (suc n) from (first ∷ others)
      each first others h k zero lt = subst (λ j. HasValue lane (world_of s) first (argument (view_of a d p) j) × (first < 4294967296)) (let e : from ≡ from + 0 = omega arith in e) h
      each first others h k (suc j) lt =
          subst (λ i. HasValue lane (world_of s) (nth_of j others) (argument (view_of a d p) i) × (nth_of j others < 4294967296)) (let e : from + 1 + j ≡ from + suc j = omega arith in e) (k j (omega (arith, lt)))

  -- the n-th of them, counted from 1
  nth_argument : (most n : ℕ) (ws : List ℕ) → AreArguments most 1 ws → 1 ≤ n → n ≤ most
      → HasValue lane (world_of s) (externs.argument ws n) (argument (view_of a d p) n) × (externs.argument ws n < 4294967296)
  nth_argument most n ws are some within =
      subst (λ j. HasValue lane (world_of s) (nth_of (n - 1) ws) (argument (view_of a d p) j) × (nth_of (n - 1) ws < 4294967296)) (let e : 1 + (n - 1) ≡ n = omega (arith, some) in e)
      (are (n - 1) (omega (arith, some, within)))

  argument_form : (j : ℕ) → CanonicalValues (argument (view_of a d p) j)
  argument_form j = stored_form a form d p D32 (argument_at a j)

  -- -- What is done

  -- what is written before the results
  abbrev pub first_effects : Kind → List AbsEffect
  first_effects (kind.Fills buffer len) = fill_effects (argument (view_of a d p) buffer) (filled_count (view_of a d p) len)
  first_effects _ = []

  -- the block that is given, where the kind gives one
  abbrev pub IsGivenBy : ℕ → Kind → ℕ → Option Given → Type 0
  IsGivenBy at kind.Alloc eax given =
      (size : ℕ) × (given ≡ Some (record { extern_at = at; base = eax; size = size })) × HasValue lane (world_of s) size (argument (view_of a d p) 1) × (size < 4294967296)
  IsGivenBy at _ eax given = given ≡ None

  pub record Does (at : ℕ) (k : Kind) (done : Outcome) : Type 0 where
    pub results : Results
    pub place : ℕ
    pub first : List Effect
    pub given : Option Given
    pub all : Bool
    pub is : done ≡ record (rows.returning (first ++ result_effects results) (rows.risen (s.registers 4) 4) place) { given = given; reads_all = all }
    pub slot_word : word_at (all_changed first s).memory (s.registers 4) ≡ Some place
    pub since : effects_fit image s.memory first ≡ true → Since image lane p a s (all_done d image p (first_effects k) a) (all_changed first s)
    pub written : (byte : ℕ) → effects_fit image s.memory first ≡ true → effects_write first (AtByte byte) ≡ true → IsAccessed lane s (extern_writes (view_of a d p) k) byte
    pub takes : (byte : ℕ) → effects_take first (AtByte byte) ≡ false
    pub block : IsGivenBy at k results.eax given
    pub everything : all ≡ true → is_reader k ≡ true

  -- -- By kind

  -- the return word
  place_gives : (R : ℕ → Type 0) → ((byte : ℕ) → IsNear lane s (a.registers 4) 4 byte → R byte) → Gives s R (λ w. word_at s.memory (s.registers 4) ≡ Some w) (stored_word (s.registers 4))
  place_gives R there =
      record {
        given = (word_gives s (s.registers 4)).given;
        asked = (number_gives image lane p a s d known_ form R D32 (s.registers 4) (a.registers 4) (known_.whole.laid_out.sized.registers 4) held_sp there).asked;
      }

  record Plain (done : Outcome) : Type 0 where
    results : Results
    place : ℕ
    is_place : word_at s.memory (s.registers 4) ≡ Some place
    is : done ≡ externs.answered results (s.registers 4) place

  pure_gives : (n : ℕ) → n ≤ 8 → Gives s (IsAccessed lane s (words_read a n)) Plain (externs.pure n)
  unfolding machine_operands.whole_register
  pure_gives n few =
      let R = IsAccessed lane s (words_read a n) in
      gives_bind s R (λ r. Unit {0}) Plain any_results _ (results_any s R) (λ r e.
      gives_register s R Plain 4 _
      (gives_bind s R (AreArguments n 1) Plain (words_from (s.registers 4 + 4) n) _
      (gives_more s (IsAccessed lane s (arguments_read a n 1)) R (AreArguments n 1) (AreArguments n 1) (words_from (s.registers 4 + 4) n) (λ at f. inr f) (λ ws k. k) (words_give n 1 (omega (arith, few)))) (λ read f.
      gives_bind s R (λ w. word_at s.memory (s.registers 4) ≡ Some w) Plain (stored_word (s.registers 4)) _ (place_gives R (λ byte near. inl near)) (λ place is.
      gives_this s R Plain (externs.answered r (s.registers 4) place) (record { results = r; place = place; is_place = is; is = refl })))))

  itself : Since image lane p a s a s
  itself = since_itself image lane p a s known_ form

  pure_does : (at n : ℕ) (done : Outcome) → Plain done → Does at (kind.Pure n) done
  unfolding extern_writes
  pure_does at n done plain =
      record {
        results = plain.results;
        place = plain.place;
        first = [];
        given = None;
        all = false;
        is = plain.is;
        slot_word = plain.is_place;
        since = λ fits. itself;
        written = λ byte fits e. absurd (false≢true e);
        takes = λ byte. refl;
        block = refl;
        everything = λ e. absurd (false≢true e);
      }

  reader_does : (at n : ℕ) (done : Outcome) → Plain done → Does at (kind.Reader n) (record done { reads_all = true })
  unfolding extern_writes
  reader_does at n done plain =
      record {
        results = plain.results;
        place = plain.place;
        first = [];
        given = None;
        all = true;
        is = ap (λ (x : Outcome). record x { reads_all = true }) plain.is;
        slot_word = plain.is_place;
        since = λ fits. itself;
        written = λ byte fits e. absurd (false≢true e);
        takes = λ byte. refl;
        block = refl;
        everything = λ e. refl;
      }

  alloc_gives : (at : ℕ) → Gives s (IsAccessed lane s (words_read a 1)) (Does at kind.Alloc) (externs.allocator at)
  unfolding machine_operands.whole_register extern_writes
  alloc_gives at =
      let R = IsAccessed lane s (words_read a 1) in
      gives_bind s R (λ r. Unit {0}) _ any_results _ (results_any s R) (λ r e.
      gives_register s R _ 4 _
      (gives_bind s R _ _ (stored_word (s.registers 4 + 4)) _ (argument_gives R 1 (omega arith) (λ byte near. inr (inl near))) (λ size h.
      gives_bind s R (λ w. word_at s.memory (s.registers 4) ≡ Some w) _ (stored_word (s.registers 4)) _ (place_gives R (λ byte near. inl near)) (λ place is.
      gives_this s R (Does at kind.Alloc) (record (externs.answered r (s.registers 4) place) { given = Some (record { extern_at = at; base = r.eax; size = size }) })
      (record {
        results = r;
        place = place;
        first = [];
        given = Some (record { extern_at = at; base = r.eax; size = size });
        all = false;
        is = refl;
        slot_word = is;
        since = λ fits. itself;
        written = λ byte fits e. absurd (false≢true e);
        takes = λ byte. refl;
        block = (size, refl, h.0, h.1);
        everything = λ e. absurd (false≢true e);
      })))))

  -- -- One that fills

  module _ (buffer len : ℕ) (to most : ℕ) (bytes : List ℕ) (has_to : HasValue lane (world_of s) to (argument (view_of a d p) buffer)) (low_to : to < 4294967296)
      (has_most : HasValue lane (world_of s) most (argument (view_of a d p) len)) (low_most : most < 4294967296) (short : length bytes ≤ most)
      (quiet : AreQuiet a p (range_of true (argument (view_of a d p) buffer) 1 (filled_count (view_of a d p) len))) (fits : effects_fit image s.memory (stores to bytes ∷ []) ≡ true) where
    opened : (k : ℕ) → k < length bytes → is_open image s.memory (to + k) ≡ true
    opened = each_open (is_open image s.memory) to bytes (and_parts (all_of_bytes (is_open image s.memory) to bytes) true fits).0

    count_of_bytes : (c : Interval) → filled_count (view_of a d p) len ≡ Some c → length bytes ≤ bytes_of 1 c
    count_of_bytes c e =
        let count = if_counted_is lane (world_of s) (argument (view_of a d p) len) (argument_form len) most low_most has_most 1 (only_number (argument (view_of a d p) len)) refl c e in
        let within : most * 1 ≤ bytes_of 1 c = count.within in
        omega (arith, within, short)

    filled_range : (n : ℕ) → length bytes ≤ n → 1 ≤ length bytes → IsRange lane s (argument (view_of a d p) buffer) to (length bytes) n
    filled_range n within some = record { word = low_to; member = has_to; some = some; within = within; mapped = λ k lt. (and_parts _ _ (opened k lt)).0 }

    fill_since : Since image lane p a s (all_done d image p (fill_effects (argument (view_of a d p) buffer) (filled_count (view_of a d p) len)) a) (changed (stores to bytes) s)
    fill_since = by (filled_count (view_of a d p) len) refl quiet
      where
        by_number : (c : Interval) → filled_count (view_of a d p) len ≡ Some c → (t : Bool) → (bytes_of 1 c == 0) ≡ t → AreQuiet a p (cond t [] (access true (argument (view_of a d p) buffer) (Some (bytes_of 1 c)) ∷ []))
            → Since image lane p a s (all_done d image p (cond t [] (fills (argument (view_of a d p) buffer) (Some (bytes_of 1 c)) range.Any ∷ [])) a) (changed (stores to bytes) s)
        by_number c e true f quiet = nothing bytes (let none : bytes_of 1 c ≡ 0 = eqb-true (bytes_of 1 c) 0 f in let most = count_of_bytes c e in omega (arith, none, most))
          where
            nothing : (xs : List ℕ) → length xs ≡ 0 → Since image lane p a s a (changed (stores to xs) s)
            nothing [] e = itself
            nothing (x ∷ xs) e = absurd (omega (arith, e))
        by_number c e false f quiet =
            fills_since image lane p a s d known_ form to (length bytes) (bytes_of 1 c) (argument (view_of a d p) buffer) range.Any (overwritten s.memory to bytes) (argument_form buffer)
            (filled_range (bytes_of 1 c) (count_of_bytes c e)) (pos_of_ne-zero (eqb-false (bytes_of 1 c) 0 f)) (count_of_bytes c e)
            (record { are_open = opened; others = λ y far. overwritten_other s.memory to bytes y (not_near to bytes y far) }) tt
            (overwritten_maps image s.memory to bytes (and_parts (all_of_bytes (is_open image s.memory) to bytes) true fits).0)
            (overwritten_below s.memory to bytes known_.whole.laid_out.sized.memory) quiet.0

        by : (o : Option Interval) → filled_count (view_of a d p) len ≡ o → AreQuiet a p (range_of true (argument (view_of a d p) buffer) 1 o)
            → Since image lane p a s (all_done d image p (fill_effects (argument (view_of a d p) buffer) o) a) (changed (stores to bytes) s)
        by None e quiet = absurd quiet.0
        by (Some c) e quiet = by_number c e (bytes_of 1 c == 0) refl quiet

    fill_written : (byte : ℕ) → is_of_bytes to bytes byte ≡ true → IsAccessed lane s (range_of true (argument (view_of a d p) buffer) 1 (filled_count (view_of a d p) len)) byte
    fill_written byte here = by (filled_count (view_of a d p) len) refl
      where
        bounds : (to ≤ byte) × (byte < to + length bytes)
        bounds = bytes_near to bytes byte here

        by_number : (c : Interval) → filled_count (view_of a d p) len ≡ Some c → (t : Bool) → (bytes_of 1 c == 0) ≡ t
            → IsAccessed lane s (cond t [] (access true (argument (view_of a d p) buffer) (Some (bytes_of 1 c)) ∷ [])) byte
        by_number c e true f = absurd (let none : bytes_of 1 c ≡ 0 = eqb-true (bytes_of 1 c) 0 f in let most = count_of_bytes c e in omega (arith, none, most, bounds))
        by_number c e false f =
            inl (near_range lane s (argument (view_of a d p) buffer) to (length bytes) (bytes_of 1 c) byte (filled_range (bytes_of 1 c) (count_of_bytes c e) (omega (arith, bounds))) bounds)

        by : (o : Option Interval) → filled_count (view_of a d p) len ≡ o → IsAccessed lane s (range_of true (argument (view_of a d p) buffer) 1 o) byte
        by None e = inl tt
        by (Some c) e = by_number c e (bytes_of 1 c == 0) refl

  fill_gives : (at buffer len : ℕ) → IsKind (kind.Fills buffer len) → AreQuiet a p (extern_writes (view_of a d p) (kind.Fills buffer len))
      → Gives s (IsAccessed lane s (words_read a (max buffer len))) (Does at (kind.Fills buffer len)) (externs.filler buffer len)
  unfolding machine_operands.whole_register extern_writes
  fill_gives at buffer len fits quiet =
      let R = IsAccessed lane s (words_read a (max buffer len)) in
      let few : max buffer len ≤ 8 = max-le fits.1 fits.3 in
      gives_bind s R (λ r. Unit {0}) _ any_results _ (results_any s R) (λ r e.
      gives_register s R _ 4 _
      (gives_bind s R (AreArguments (max buffer len) 1) _ (words_from (s.registers 4 + 4) (max buffer len)) _
      (gives_more s (IsAccessed lane s (arguments_read a (max buffer len) 1)) R (AreArguments (max buffer len) 1) (AreArguments (max buffer len) 1) (words_from (s.registers 4 + 4) (max buffer len)) (λ at f. inr f) (λ ws k. k)
      (words_give (max buffer len) 1 (omega (arith, few)))) (λ read are.
      let to = nth_argument (max buffer len) buffer read are fits.0 (le-max_left buffer len) in
      let most = nth_argument (max buffer len) len read are fits.2 (le-max_right buffer len) in
      gives_bind s R (λ (ws : List ℕ). length ws ≤ externs.argument read len) _ (any_prefix (externs.argument read len)) _ (prefix_short s R (externs.argument read len)) (λ bytes short.
      gives_bind s R _ _ (number_over (externs.argument read buffer) bytes 4 (s.registers 4)) _
      (over_gives s R (externs.argument read buffer) bytes 4 (s.registers 4) (λ k lt. inl (slot_near k lt))) (λ place is.
      gives_this s R _ (rows.returning (stores (externs.argument read buffer) bytes ∷ result_effects r) (rows.risen (s.registers 4) 4) place)
      (record {
        results = r;
        place = place;
        first = stores (externs.argument read buffer) bytes ∷ [];
        given = None;
        all = false;
        is = refl;
        slot_word = is;
        since = λ fit. fill_since buffer len (externs.argument read buffer) (externs.argument read len) bytes to.0 to.1 most.0 most.1 short quiet fit;
        written = λ byte fit e. fill_written buffer len (externs.argument read buffer) (externs.argument read len) bytes to.0 to.1 most.0 most.1 short quiet fit byte (or_end _ e);
        takes = λ byte. refl;
        block = refl;
        everything = λ e. absurd (false≢true e);
      }))))))

  -- -- All

  pub extern_gives : (at : ℕ) (k : Kind) → returns_from k ≡ true → IsKind k → AreQuiet a p (extern_writes (view_of a d p) k) → Gives s (IsAccessed lane s (extern_reads a k)) (Does at k) (externs.extern_row at k)
  unfolding externs.extern_row extern_reads
  extern_gives at (kind.Pure n) e fits quiet = gives_more s (IsAccessed lane s (words_read a n)) (IsAccessed lane s (words_read a n)) Plain (Does at (kind.Pure n)) (externs.pure n) (λ at r. r) (pure_does at n) (pure_gives n fits)
  extern_gives at (kind.Reader n) e fits quiet =
      let R = IsAccessed lane s (words_read a n) in
      gives_bind s R Plain (Does at (kind.Reader n)) (externs.pure n) _ (pure_gives n fits) (λ done plain. gives_this s R (Does at (kind.Reader n)) (record done { reads_all = true }) (reader_does at n done plain))
  extern_gives at kind.Alloc e fits quiet = alloc_gives at
  extern_gives at kind.Stop e fits quiet = absurd (false≢true e)
  extern_gives at kind.Unknown e fits quiet = absurd (false≢true e)
  extern_gives at (kind.Fills buffer len) e fits quiet = fill_gives at buffer len fits quiet

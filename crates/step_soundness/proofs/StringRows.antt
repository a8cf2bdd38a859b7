-- The rows of string instructions: movs and stos, once and repeated.
use Rattle.std.proofs.Common.{◌≡◌, ◌⊎◌, inl, inr, ⊎_elim, ℕ, ◌+◌, ◌*◌, ◌%◌, ◌^◌, ◌<◌, ◌≤◌, ◌==◌, Bool, true, false, cond, List, [], ◌∷◌, ◌++◌, Option, Some, None, refl, sym, ◌∙◌, ap, subst, arith, lit<, eqb-true, pos}
use Rattle.std.specs.Prelude.{is_some}
use Rattle.std.proofs.lemmas.Bool.{false≢true, true≢false, and_parts, eqb-false, cases_lt, cond_both, or_left}
use Rattle.std.proofs.Math.Nat.{pos_of_ne-zero}
use Rattle.image_map.specs.declared.image.Image.{Image}
use Rattle.ia32_types.specs.declared.Instr.{Instr}
use Rattle.ia32_types.specs.declared.Op.TheVariants as op
use Rattle.ia32_types.specs.declared.Operand.TheVariants as operand
use Rattle.ia32_types.specs.declared.Reg.TheVariants.{Eax}
use Rattle.ia32_types.specs.declared.Width.{Width}
use Rattle.ia32_types.specs.declared.Width.TheVariants.{B8, W16, D32}
use Rattle.ia32_semantics.specs.Effects.{Effect, Whole, sets, stores, copies, changed, all_changed, with_part, bytes_from, is_open, is_mapped, all_among, effect_fits, effects_fit, effects_write, effects_take}
use Rattle.ia32_types.specs.Numbers.{size}
use Rattle.ia32_semantics.specs.Operands.{bits, low_part, number_bytes, flag_value, whole_register}
use Rattle.ia32_semantics.specs.Outcome.{going}
use Rattle.ia32_semantics.specs.Reading.{gives}
use Rattle.ia32_semantics.specs.Rows as rows
use Rattle.ia32_semantics.specs.Rows.{next_place, goes_on}
use Rattle.ia32_semantics.specs.State.{State, Bytes, AtByte, little_endian, put}
use Rattle.ia32_semantics.specs.Strings.{stepped as steps, copied, filled, movs_effects, stos_effects, repeated, string_effects}
use Rattle.ia32_semantics.proofs.ChangeLemmas.{write_append, take_append}
use Rattle.ia32_semantics.proofs.EffectLemmas.{MapsAs, effects_map, effects_sizes, all_from, changed_append, fit_append}
use Rattle.alocs.specs.Cells.{Division}
use Rattle.strided.specs.Interval.{Interval}
use Rattle.vset.specs.Values.{Values, CanonicalValues}
use Rattle.vset.specs.Members.{HasValue}
use Rattle.abs_alu.specs.Operands.{known}
use Rattle.abs_alu.specs.Words.{number}
use Rattle.abs_alu.proofs.WordLemmas.{number_has, known_is}
use Rattle.abs_semantics.specs.declared.parts.RangeValue.{RangeValue}
use Rattle.abs_semantics.specs.declared.parts.RangeValue.TheVariants as range
use Rattle.abs_semantics.specs.States.{AbsState, HasCanonical}
use Rattle.abs_semantics.specs.StandsFor.{world_of}
use Rattle.abs_semantics.specs.Ownership.{IsKnown, IsRange}
use Rattle.abs_semantics.specs.Operands.{operand_value}
use Rattle.abs_semantics.specs.Stores.{with_memory, IsStored, HoldsRange}
use Rattle.abs_steps.specs.declared.accesses.Access.{Access}
use Rattle.abs_steps.specs.Accesses.{access, range_of, string_range, writes}
use Rattle.abs_steps.specs.Effects.{AbsEffect, puts, saves, fills, done, all_done}
use Rattle.abs_steps.specs.Rows.{view_of}
use Rattle.abs_steps.specs.Strings.{stepped, grown, count_of, bytes_of, if_alone, number_or_any, pointer_effects, moved_once, stored_once, moved_often, stored_often, moved, stored}
use Rattle.abs_steps.specs.Views.{stored_at, value_of}
use Rattle.step_soundness.specs.Accessed.{IsAccessed, IsFilled, AreFilled, is_one, always_written}
use Rattle.step_soundness.proofs.EndLaws.{Goes, slots_of}
use Rattle.step_soundness.proofs.FillLaws.{near_range, fills_since, IsCount, count_is}
use Rattle.step_soundness.proofs.GivenLaws.{Gives, gives_bind, gives_this, gives_register, gives_flag, gives_if}
use Rattle.step_soundness.proofs.OperandLaws.{number_below, stored_has}
use Rattle.step_soundness.proofs.PointerLaws.{stepped_has, grown_has}
use Rattle.step_soundness.proofs.RowLaws.{value_canonical}
use Rattle.step_soundness.proofs.SinceLaws.{Since, since_itself, since_saves}
use Rattle.step_soundness.proofs.SpanLaws.{among_bounds, among_there, each_among, read_bytes, bytes_back, low_bytes, IsLow, Copies, Fills, copies_up, fills_up, repeated_read}
use Rattle.step_soundness.proofs.StoreLaws.{some_size}
use Rattle.step_soundness.proofs.ValueForms.{small_form, stepped_form, grown_form, stored_form}
use Rattle.step_soundness.proofs.WordLaws.{low_has}
use Rattle.step_soundness.proofs.WriteLaws.{IsQuiet, AreQuiet, sets_since, saves_since, saves_near, saves_filled, or_end}

pub few_size : (width : Width) → size width ≤ 4
few_size B8 = omega arith
few_size W16 = omega arith
few_size D32 = omega arith

-- the low part of a word, as it is cut where it is stored
low_cut : (width : Width) (n : ℕ) → n < 4294967296 → low_part width n ≡ n % 2 ^ bits width
low_cut B8 n lt = refl
low_cut W16 n lt = refl
low_cut D32 n lt = omega (arith, lt)

-- no element has no bytes
no_bytes : (z n : ℕ) → n ≡ 0 → n * z ≡ 0
no_bytes z n none = ap (λ k. k * z) none ∙ (let e : 0 * z ≡ 0 = omega arith in e)

-- a register that takes what it holds
pub set_same : (t : State) (n v : ℕ) → v ≡ t.registers n → t.registers n < 4294967296 → changed (sets Whole n v) t ≡ t
unfolding with_part
set_same t n v is lt = λ i. record t { registers = λ k. same k i }
  where
    same : (k : ℕ) → put t.registers n (v % 4294967296) k ≡ t.registers k
    same k = by (n == k) refl
      where
        by : (b : Bool) → (n == k) ≡ b → cond b (v % 4294967296) (t.registers k) ≡ t.registers k
        by true e = (let cut : v % 4294967296 ≡ v = omega (arith, is, lt) in cut) ∙ is ∙ ap t.registers (eqb-true n k e)
        by false e = refl

-- what comes after the elements: ESI and EDI, and ECX
abbrev pub pointers : ℕ → ℕ → List Effect
pointers from to = sets Whole 6 from ∷ sets Whole 7 to ∷ sets Whole 1 0 ∷ []

stepped_word : (down : Bool) (z n a : ℕ) → steps down z n a < 4294967296
unfolding steps
stepped_word down z n a = omega arith

module _ (image : Image) (lane p : ℕ) (a : AbsState) (s : State) (d : Division) (known_ : IsKnown image lane a p s) (form : HasCanonical a) where
  held : (n : ℕ) → n < 8 → HasValue lane (world_of s) (s.registers n) (a.registers n)
  held n lt = known_.stands.registers n lt

  word : (n : ℕ) → s.registers n < 4294967296
  word n = known_.whole.laid_out.sized.registers n

  is_low : IsLow s
  is_low = record { bytes = known_.whole.laid_out.sized.memory; low = low_bytes image s known_.image_is known_.whole.laid_out }

  -- a register takes a word
  word_since : (r n : ℕ) (w : Values) → r < 8 → CanonicalValues w → n < 4294967296 → HasValue lane (world_of s) n w → (b : AbsState) (t : State) → Since image lane p a s b t
      → Since image lane p a s (done d image p (puts Whole r w) b) (changed (sets Whole r n) t)
  word_since r n w few fw small has b t h =
      sets_since image lane p a s d known_ form D32 r n w few fw (subst (λ k. HasValue lane (world_of s) k w) (let cut : n ≡ n % 4294967296 = omega (arith, small) in cut) has) b t h

  -- -- Once

  direction : a.flags 5 (s.flags 5) ≡ true
  direction = known_.stands.flags 5 (lit< tt)

  -- a pointer after one element
  once_since : (width : Width) (r : ℕ) → r < 8 → (b : AbsState) (t : State) → Since image lane p a s b t
      → Since image lane p a s (done d image p (puts Whole r (stepped a.flags (size width) (a.registers r))) b) (changed (sets Whole r (steps (s.flags 5) (size width) 1 (s.registers r))) t)
  once_since width r few =
      word_since r (steps (s.flags 5) (size width) 1 (s.registers r)) (stepped a.flags (size width) (a.registers r)) few
      (stepped_form a.flags (size width) (a.registers r) (few_size width) (form.registers r)) (stepped_word (s.flags 5) (size width) 1 (s.registers r))
      (stepped_has lane (world_of s) (a.registers r) (form.registers r) (s.registers r) (held r few) a.flags (s.flags 5) direction (size width) (few_size width))

  module _ (width : Width) (quiet : IsQuiet a p (a.registers 7) (Some (size width))) where
    abbrev one_copy : List Effect
    one_copy =
        copies (s.registers 7) (s.registers 6) (size width) ∷ sets Whole 6 (steps (s.flags 5) (size width) 1 (s.registers 6))
        ∷ sets Whole 7 (steps (s.flags 5) (size width) 1 (s.registers 7)) ∷ []

    copy_range : (r : ℕ) → r < 8 → ((k : ℕ) → k < size width → is_some (s.memory (s.registers r + k)) ≡ true) → IsRange lane s (a.registers r) (s.registers r) (size width) (size width)
    copy_range r few there = record { word = word r; member = held r few; some = some_size width; within = omega arith; mapped = there }

    module _ (fits : effects_fit image s.memory one_copy ≡ true) where
      copy_fits : (all_among (is_mapped s.memory) (s.registers 6) (size width) ≡ true) × (all_among (is_open image s.memory) (s.registers 7) (size width) ≡ true)
      copy_fits = and_parts _ _ (and_parts _ _ fits).0

      source : IsRange lane s (a.registers 6) (s.registers 6) (size width) (size width)
      source = copy_range 6 (lit< tt) (each_among (is_mapped s.memory) (s.registers 6) (size width) copy_fits.0)

      target : IsRange lane s (a.registers 7) (s.registers 7) (size width) (size width)
      target = copy_range 7 (lit< tt) (λ k lt. (and_parts _ _ (each_among (is_open image s.memory) (s.registers 7) (size width) copy_fits.1 k lt)).0)

      abbrev copied_bytes : List ℕ
      copied_bytes = bytes_from s.memory (s.registers 6) (size width)

      abbrev copied_number : ℕ
      copied_number = little_endian (bytes_from s.memory (s.registers 6) (size width))

      stored_bytes : number_bytes (size width) (little_endian (bytes_from s.memory (s.registers 6) (size width))) ≡ bytes_from s.memory (s.registers 6) (size width)
      stored_bytes = bytes_back s.memory known_.whole.laid_out.sized.memory (s.registers 6) (size width)

      copy_saves : Since image lane p a s (done d image p (saves (a.registers 7) (size width) (stored_at (view_of a d p) width (a.registers 6))) a) (changed (copies (s.registers 7) (s.registers 6) (size width)) s)
      copy_saves =
          let read = read_bytes s.memory known_.whole.laid_out.sized.memory (s.registers 6) (size width) copy_fits.0 in
          subst (λ bs. Since image lane p a s (done d image p (saves (a.registers 7) (size width) (stored_at (view_of a d p) width (a.registers 6))) a) (changed (stores (s.registers 7) bs) s)) stored_bytes
          (since_saves image lane p a s a s d (since_itself image lane p a s known_ form) width (s.registers 7) copied_number (a.registers 7) (stored_at (view_of a d p) width (a.registers 6)) (form.registers 7)
          (stored_form a form d p width (a.registers 6)) (word 7) (number_below image lane a p s d known_ form width (s.registers 6) copied_bytes read) (held 7 (lit< tt))
          (stored_has image lane a p s d known_ form width (s.registers 6) (a.registers 6) copied_bytes (word 6) (held 6 (lit< tt)) read) quiet.0 quiet.1
          (ap (λ bs. effect_fits image s.memory (stores (s.registers 7) bs)) stored_bytes ∙ all_from (is_open image s.memory) s.memory (s.registers 6) (s.registers 7) (size width) ∙ copy_fits.1))

      copy_since : Since image lane p a s (all_done d image p (moved_once (view_of a d p) width) a) (all_changed one_copy s)
      copy_since = once_since width 7 (lit< tt) _ _ (once_since width 6 (lit< tt) _ _ copy_saves)

    copied_once : (i : Instr) → Goes image lane p a s d (next_place i) (access false (a.registers 6) (Some (size width)) ∷ []) (access true (a.registers 7) (Some (size width)) ∷ []) (access true (a.registers 7) (Some (size width)) ∷ []) (moved_once (view_of a d p) width) (going one_copy (next_place i))
    copied_once i =
        record {
          is = refl;
          taken = λ byte fits e. inl (near_range lane s (a.registers 6) (s.registers 6) (size width) (size width) byte (source fits) (among_bounds (s.registers 6) (size width) byte (or_end _ e)));
          ends = λ fits. record {
            stands = (copy_since fits).known.stands;
            slots = slots_of image lane p a s d known_ form _ _ (copy_since fits);
            written = λ byte e. inl (near_range lane s (a.registers 7) (s.registers 7) (size width) (size width) byte (target fits) (among_bounds (s.registers 7) (size width) byte (or_end _ e)));
            filled = (record { at = s.registers 7; range = target fits; filled = λ k lt. or_left _ _ (among_there (s.registers 7) (size width) k lt) }, tt);
          };
        }

    -- -- A store of EAX

    abbrev one_store : List Effect
    one_store = stores (s.registers 7) (number_bytes (size width) (s.registers 0)) ∷ sets Whole 7 (steps (s.flags 5) (size width) 1 (s.registers 7)) ∷ []

    abbrev eax_value : Values
    eax_value = value_of (view_of a d p) width (Some (operand.Reg Eax))

    eax_has : HasValue lane (world_of s) (s.registers 0 % 2 ^ bits width) (value_of (view_of a d p) width (Some (operand.Reg Eax)))
    unfolding value_of operand_value
    eax_has =
        subst (λ k. HasValue lane (world_of s) k (value_of (view_of a d p) width (Some (operand.Reg Eax)))) (low_cut width (s.registers 0) (word 0))
        (low_has lane (world_of s) (a.registers 0) (form.registers 0) (s.registers 0) (word 0) (held 0 (lit< tt)) width)

    eax_form : CanonicalValues (value_of (view_of a d p) width (Some (operand.Reg Eax)))
    eax_form = value_canonical image lane p a s d known_ form width (operand.Reg Eax) tt

    stored_once_goes : (i : Instr) → Goes image lane p a s d (next_place i) [] (access true (a.registers 7) (Some (size width)) ∷ []) (access true (a.registers 7) (Some (size width)) ∷ []) (stored_once (view_of a d p) width) (going one_store (next_place i))
    stored_once_goes i =
        record {
          is = refl;
          taken = λ byte fits e. absurd (false≢true e);
          ends = λ fits. let h = since fits in record {
            stands = h.known.stands;
            slots = slots_of image lane p a s d known_ form _ _ h;
            written = λ byte e. inl (saves_near image lane p a s d known_ form width (s.registers 7) (s.registers 0) (a.registers 7) eax_value (form.registers 7) eax_form (word 7) (held 7 (lit< tt)) eax_has quiet byte (and_parts _ _ fits).0 (or_end _ e));
            filled = (saves_filled image lane p a s d known_ form width (s.registers 7) (s.registers 0) (a.registers 7) eax_value (form.registers 7) eax_form (word 7) (held 7 (lit< tt)) eax_has quiet (and_parts _ _ fits).0 (λ byte. effects_write one_store (AtByte byte)) (λ byte e. or_left _ _ e), tt);
          };
        }
      where
        since : effects_fit image s.memory one_store ≡ true → Since image lane p a s (all_done d image p (stored_once (view_of a d p) width) a) (all_changed one_store s)
        since fits =
            once_since width 7 (lit< tt) _ _
            (saves_since image lane p a s d known_ form width (s.registers 7) (s.registers 0) (a.registers 7) eax_value (form.registers 7) eax_form (word 7) (held 7 (lit< tt)) eax_has quiet a s (since_itself image lane p a s known_ form) (and_parts _ _ fits).0)

  -- -- Repeated

  pointers_since : (from to : ℕ) (x y : Values) → CanonicalValues x → CanonicalValues y → from < 4294967296 → to < 4294967296 → HasValue lane (world_of s) from x → HasValue lane (world_of s) to y
      → (b : AbsState) (t : State) → Since image lane p a s b t → Since image lane p a s (all_done d image p (pointer_effects x y) b) (all_changed (pointers from to) t)
  pointers_since from to x y fx fy small_from small_to has_from has_to b t h =
      word_since 1 0 (number (pos 0)) (lit< tt) (small_form 0 (lit< tt)) (lit< tt) (number_has lane (world_of s) 0 (lit< tt)) _ _
      (word_since 7 to y (lit< tt) fy small_to has_to _ _ (word_since 6 from x (lit< tt) fx small_from has_from b t h))

  -- what a repeated instruction leaves that fills so many bytes upwards
  record Strung (es : List Effect) (count from to : ℕ) : Type 0 where
    pub memory : Bytes
    pub is : all_changed es s ≡ all_changed (pointers from to) (with_memory s memory)
    pub stored : IsStored image s (s.registers 7) count memory
    pub write : (x : ℕ) → effects_write es (AtByte x) ≡ true → (s.registers 7 ≤ x) × (x < s.registers 7 + count)
    pub all : (k : ℕ) → k < count → effects_write es (AtByte (s.registers 7 + k)) ≡ true

  module _ (len count : ℕ) (w : RangeValue) (es : List Effect) (from to : ℕ) (within : count ≤ len) (x y : Values) (fx : CanonicalValues x) (fy : CanonicalValues y) (small_from : from < 4294967296) (small_to : to < 4294967296)
      (has_from : HasValue lane (world_of s) from x) (has_to : HasValue lane (world_of s) to y) (none : count ≡ 0 → (from ≡ s.registers 6) × (to ≡ s.registers 7)) (i : Instr) (reads : List Access)
      (taken : (byte : ℕ) → effects_fit image s.memory es ≡ true → effects_take es (AtByte byte) ≡ true → IsAccessed lane s reads byte)
      (strung : effects_fit image s.memory es ≡ true → Strung es count from to)
      (holds : 1 ≤ len → (fits : effects_fit image s.memory es ≡ true) → HoldsRange lane s (s.registers 7) count len (strung fits).memory w) (one : Bool) (whole : one ≡ true → count ≡ len) where
    abbrev Often : List Access → List Access → List AbsEffect → Type 0
    Often writes sure given = Goes image lane p a s d (next_place i) reads writes sure given (going es (next_place i))

    module _ (fits : effects_fit image s.memory es ≡ true) where
      abbrev m : Bytes
      m = (strung fits).memory

      memory_is : (all_changed es s).memory ≡ (strung fits).memory
      memory_is = ap (λ (t : State). t.memory) (strung fits).is

      maps : MapsAs (strung fits).memory s.memory
      maps = record { same = λ x. ap (λ (n : Bytes). is_some (n x)) (sym memory_is) ∙ (effects_map image es s fits).same x }

      bytes : (x byte : ℕ) → (strung fits).memory x ≡ Some byte → byte < 256
      bytes x byte e =
          (effects_sizes es s (record { registers = known_.whole.laid_out.sized.registers; memory = known_.whole.laid_out.sized.memory })).memory x byte (ap (λ (n : Bytes). n x) memory_is ∙ e)

      filled_range : 1 ≤ count → IsRange lane s (a.registers 7) (s.registers 7) count len
      filled_range some = record { word = word 7; member = held 7 (lit< tt); some = some; within = within; mapped = λ k lt. (and_parts _ _ ((strung fits).stored.are_open k lt)).0 }

    ended : (writes sure : List Access) (given : List AbsEffect) → ((fits : effects_fit image s.memory es ≡ true) → Since image lane p a s (all_done d image p given a) (all_changed es s))
        → ((byte : ℕ) → effects_fit image s.memory es ≡ true → effects_write es (AtByte byte) ≡ true → IsAccessed lane s writes byte)
        → ((fits : effects_fit image s.memory es ≡ true) → AreFilled lane s (λ byte. effects_write es (AtByte byte)) sure) → Often writes sure given
    ended writes sure given since written filled =
        record {
          is = refl;
          taken = taken;
          ends = λ fits. record { stands = (since fits).known.stands; slots = slots_of image lane p a s d known_ form _ _ (since fits); written = λ byte e. written byte fits e; filled = filled fits };
        }

    often_goes : (t : Bool) → (len == 0) ≡ t → AreQuiet a p (cond t [] (access true (a.registers 7) (Some len) ∷ []))
        → Often (cond t [] (access true (a.registers 7) (Some len) ∷ [])) (cond one (cond t [] (access true (a.registers 7) (Some len) ∷ [])) []) (cond t (pointer_effects (a.registers 6) (a.registers 7)) (fills (a.registers 7) (Some len) w ∷ pointer_effects x y))
    often_goes true e quiet =
        ended [] (cond one [] []) (pointer_effects (a.registers 6) (a.registers 7))
        (λ fits. subst (Since image lane p a s (all_done d image p (pointer_effects (a.registers 6) (a.registers 7)) a)) (sym ((strung fits).is ∙ ap (λ m. all_changed (pointers from to) (with_memory s m)) (unchanged fits)))
        (pointers_since from to (a.registers 6) (a.registers 7) (form.registers 6) (form.registers 7) small_from small_to
        (subst (λ k. HasValue lane (world_of s) k (a.registers 6)) (sym (none empty).0) (held 6 (lit< tt))) (subst (λ k. HasValue lane (world_of s) k (a.registers 7)) (sym (none empty).1) (held 7 (lit< tt)))
        a s (since_itself image lane p a s known_ form)))
        (λ byte fits f. absurd (let bounds = (strung fits).write byte f in omega (arith, bounds, empty)))
        (λ fits. cond_both one [] [] (AreFilled lane s (λ byte. effects_write es (AtByte byte))) (λ _. tt) (λ _. tt))
      where
        empty : count ≡ 0
        empty = let is : len ≡ 0 = eqb-true len 0 e in omega (arith, is, within)

        beside : (y : ℕ) → (y < s.registers 7) ⊎ (s.registers 7 + count ≤ y)
        beside y = ⊎_elim (λ low. inl low) (λ high. inr (omega (arith, high, empty))) (cases_lt y (s.registers 7))

        unchanged : (fits : effects_fit image s.memory es ≡ true) → (strung fits).memory ≡ s.memory
        unchanged fits = λ i y. (strung fits).stored.others y (beside y) i
    often_goes false e quiet =
        ended (access true (a.registers 7) (Some len) ∷ []) (cond one (access true (a.registers 7) (Some len) ∷ []) []) (fills (a.registers 7) (Some len) w ∷ pointer_effects x y)
        (λ fits. subst (Since image lane p a s (all_done d image p (fills (a.registers 7) (Some len) w ∷ pointer_effects x y) a)) (sym (strung fits).is)
        (pointers_since from to x y fx fy small_from small_to has_from has_to _ _
        (fills_since image lane p a s d known_ form (s.registers 7) count len (a.registers 7) w (strung fits).memory (form.registers 7) (filled_range fits) some within (strung fits).stored (holds some fits) (maps fits) (bytes fits) quiet.0)))
        (λ byte fits f. inl (let bounds = (strung fits).write byte f in near_range lane s (a.registers 7) (s.registers 7) count len byte (filled_range fits (omega (arith, bounds))) bounds))
        (λ fits. cond_both one (access true (a.registers 7) (Some len) ∷ []) [] (AreFilled lane s (λ byte. effects_write es (AtByte byte))) (λ e. (in_whole fits (whole e), tt)) (λ _. tt))
      where
        some : 1 ≤ len
        some = pos_of_ne-zero (eqb-false len 0 e)

        in_whole : (fits : effects_fit image s.memory es ≡ true) → count ≡ len → IsFilled lane s (λ byte. effects_write es (AtByte byte)) (a.registers 7) len
        in_whole fits same =
            record {
              at = s.registers 7;
              range = subst (λ n. IsRange lane s (a.registers 7) (s.registers 7) n len) same (filled_range fits (subst (λ n. 1 ≤ n) (sym same) some));
              filled = λ k lt. (strung fits).all k (subst (λ n. k < n) (sym same) lt);
            }

  -- nothing is done where ECX is 0
  idle_strung : s.registers 1 ≡ 0 → Strung [] 0 (s.registers 6) (s.registers 7)
  idle_strung none =
      record {
        memory = s.memory;
        is = sym (set_same (changed (sets Whole 7 (s.registers 7)) (changed (sets Whole 6 (s.registers 6)) s)) 1 0 (sym none) (word 1)
            ∙ set_same (changed (sets Whole 6 (s.registers 6)) s) 7 (s.registers 7) refl (word 7) ∙ set_same s 6 (s.registers 6) refl (word 6));
        stored = record { are_open = λ k lt. absurd (omega (arith, lt)); others = λ y far. refl };
        write = λ x e. absurd (false≢true e);
        all = λ k lt. absurd (omega (arith, lt));
      }

  -- -- Moves

  module _ (width : Width) (n : ℕ) where
    abbrev copy_list : Bool → List Effect
    copy_list down =
        copied down (size width) n (s.registers 6) (s.registers 7)
        ++ (sets Whole 6 (steps down (size width) n (s.registers 6)) ∷ sets Whole 7 (steps down (size width) n (s.registers 7)) ∷ []) ++ (sets Whole 1 0 ∷ [])

    abbrev two : List Effect
    two = sets Whole 6 (steps false (size width) n (s.registers 6)) ∷ sets Whole 7 (steps false (size width) n (s.registers 7)) ∷ []

    copies_fit : effects_fit image s.memory (copy_list false) ≡ true → effects_fit image s.memory (copied false (size width) n (s.registers 6) (s.registers 7)) ≡ true
    copies_fit fits =
        let cs = copied false (size width) n (s.registers 6) (s.registers 7) in
        let first = and_parts (effects_fit image s.memory (cs ++ two)) (effects_fit image s.memory (sets Whole 1 0 ∷ [])) (sym (fit_append image s.memory (cs ++ two) (sets Whole 1 0 ∷ [])) ∙ fits) in
        (and_parts (effects_fit image s.memory cs) (effects_fit image s.memory two) (sym (fit_append image s.memory cs two) ∙ first.0)).0

    module _ (fits : effects_fit image s.memory (copy_list false) ≡ true) where
      copy_up : Copies image s (size width) n (s.registers 6) (s.registers 7)
      copy_up = copies_up image (size width) (some_size width) (few_size width) n s (s.registers 6) (s.registers 7) is_low (copies_fit fits)

      copy_strung : Strung (copy_list false) (n * size width) (steps false (size width) n (s.registers 6)) (steps false (size width) n (s.registers 7))
      copy_strung =
          let cs = copied false (size width) n (s.registers 6) (s.registers 7) in
          record {
            memory = (all_changed cs s).memory;
            is = changed_append (cs ++ two) (sets Whole 1 0 ∷ []) s ∙ ap (all_changed (sets Whole 1 0 ∷ [])) (changed_append cs two s)
                ∙ ap (all_changed (pointers (steps false (size width) n (s.registers 6)) (steps false (size width) n (s.registers 7)))) copy_up.is;
            stored = record { are_open = copy_up.opened; others = copy_up.others };
            write = λ x e. copy_up.write x (or_end _ (sym (write_append cs two (AtByte x)) ∙ or_end _ (sym (write_append (cs ++ two) (sets Whole 1 0 ∷ []) (AtByte x)) ∙ e)));
            all = λ k lt. write_append (cs ++ two) (sets Whole 1 0 ∷ []) (AtByte (s.registers 7 + k)) ∙ or_left _ _ (write_append cs two (AtByte (s.registers 7 + k)) ∙ or_left _ _ (copy_up.all k lt));
          }

      copy_takes : (byte : ℕ) → effects_take (copy_list false) (AtByte byte) ≡ true → (s.registers 6 ≤ byte) × (byte < s.registers 6 + n * size width)
      copy_takes byte e =
          let cs = copied false (size width) n (s.registers 6) (s.registers 7) in
          copy_up.take byte (or_end _ (sym (take_append cs two (AtByte byte)) ∙ or_end _ (sym (take_append (cs ++ two) (sets Whole 1 0 ∷ []) (AtByte byte)) ∙ e)))

  module _ (width : Width) (c : Interval) (up : s.flags 5 ≡ false) (count : IsCount (size width) (s.registers 1) c) where
    abbrev z : ℕ
    z = size width

    abbrev n : ℕ
    n = s.registers 1

    abbrev len : ℕ
    len = bytes_of (size width) c

    small_z : size width < 2147483648
    small_z = let few = few_size width in omega (arith, few)

    step_has : (r : ℕ) → r < 8 → HasValue lane (world_of s) (steps false (size width) (s.registers 1) (s.registers r)) (grown (size width) c (a.registers r))
    step_has r few = grown_has lane (world_of s) c count.canonical (s.registers 1) (word 1) count.member (size width) small_z (a.registers r) (form.registers r) (s.registers r) (held r few)

    step_form : (r : ℕ) → CanonicalValues (grown (size width) c (a.registers r))
    step_form r = grown_form (size width) c (a.registers r) small_z count.canonical (form.registers r)

    -- no step where there is no element
    no_step : (r : ℕ) → s.registers 1 * size width ≡ 0 → steps false (size width) (s.registers 1) (s.registers r) ≡ s.registers r
    unfolding steps
    no_step r none = let small = word r in ap (λ k. (s.registers r + k) % 4294967296) none ∙ (let e : (s.registers r + 0) % 4294967296 ≡ s.registers r = omega (arith, small) in e)

    -- what is stored is known only where the number of elements is
    alone_holds : (k : ℕ) (w : RangeValue) (memory : Bytes) → (s.registers 1 * size width ≡ bytes_of (size width) c → HoldsRange lane s (s.registers 7) k (bytes_of (size width) c) memory w)
        → HoldsRange lane s (s.registers 7) k (bytes_of (size width) c) memory (if_alone c w)
    alone_holds k w memory h = by (c.stride == 0) refl
      where
        by : (t : Bool) → (c.stride == 0) ≡ t → HoldsRange lane s (s.registers 7) k (bytes_of (size width) c) memory (cond t w range.Any)
        by true e = h (count.alone (eqb-true c.stride 0 e))
        by false e = tt

    module _ (i : Instr) (reads : List Access) (quiet : AreQuiet a p (range_of true (a.registers 7) (size width) (Some c))) where
      abbrev Repeats : RangeValue → Values → List Effect → Type 0
      Repeats w x es =
          Goes image lane p a s d (next_place i) reads (range_of true (a.registers 7) (size width) (Some c)) (cond (c.stride == 0) (range_of true (a.registers 7) (size width) (Some c)) [])
          (cond (bytes_of (size width) c == 0) (pointer_effects (a.registers 6) (a.registers 7)) (fills (a.registers 7) (Some (bytes_of (size width) c)) (if_alone c w) ∷ pointer_effects x (grown (size width) c (a.registers 7))))
          (going es (next_place i))

      idle_repeats : (w : RangeValue) (x : Values) → CanonicalValues x → HasValue lane (world_of s) (s.registers 6) x → s.registers 1 ≡ 0 → Repeats w x []
      unfolding idle_strung
      idle_repeats w x fx has_x empty =
          let nothing : s.registers 1 * size width ≡ 0 = no_bytes (size width) (s.registers 1) empty in
          often_goes (bytes_of (size width) c) 0 (if_alone c w) [] (s.registers 6) (s.registers 7) (omega arith) x (grown (size width) c (a.registers 7)) fx (step_form 7) (word 6) (word 7) has_x
          (subst (λ k. HasValue lane (world_of s) k (grown (size width) c (a.registers 7))) (no_step 7 nothing) (step_has 7 (lit< tt))) (λ e. (refl, refl)) i reads
          (λ byte fits e. absurd (false≢true e)) (λ fits. idle_strung empty)
          (λ some fits. alone_holds 0 w s.memory (λ whole. absurd (let none : bytes_of (size width) c ≡ 0 = sym whole ∙ nothing in omega (arith, some, none))))
          (c.stride == 0) (λ single. sym nothing ∙ count.alone (eqb-true c.stride 0 single)) (bytes_of (size width) c == 0) refl quiet

      copy_repeats : reads ≡ range_of false (a.registers 6) (size width) (Some c) → Repeats (range.Copy (a.registers 6)) (grown (size width) c (a.registers 6)) (copy_list width (s.registers 1) false)
      unfolding copy_strung
      copy_repeats same =
          often_goes (bytes_of (size width) c) (s.registers 1 * size width) (if_alone c (range.Copy (a.registers 6))) (copy_list width (s.registers 1) false)
          (steps false (size width) (s.registers 1) (s.registers 6)) (steps false (size width) (s.registers 1) (s.registers 7)) count.within
          (grown (size width) c (a.registers 6)) (grown (size width) c (a.registers 7)) (step_form 6) (step_form 7) (stepped_word false (size width) (s.registers 1) (s.registers 6)) (stepped_word false (size width) (s.registers 1) (s.registers 7))
          (step_has 6 (lit< tt)) (step_has 7 (lit< tt)) (λ e. (no_step 6 e, no_step 7 e)) i reads
          taken (copy_strung width (s.registers 1))
          (λ some fits. let cs = copy_up width (s.registers 1) fits in
          alone_holds (s.registers 1 * size width) (range.Copy (a.registers 6)) (copy_strung width (s.registers 1) fits).memory
          (λ whole. subst (λ l. HoldsRange lane s (s.registers 7) (s.registers 1 * size width) l (copy_strung width (s.registers 1) fits).memory (range.Copy (a.registers 6))) whole
          (refl, record { from = s.registers 6; word = word 6; member = held 6 (lit< tt); mapped = cs.mapped; copied = cs.copied_is })))
          (c.stride == 0) (λ single. count.alone (eqb-true c.stride 0 single)) (bytes_of (size width) c == 0) refl quiet
        where
          taken : (byte : ℕ) → effects_fit image s.memory (copy_list width (s.registers 1) false) ≡ true → effects_take (copy_list width (s.registers 1) false) (AtByte byte) ≡ true → IsAccessed lane s reads byte
          taken byte fits e = subst (λ xs. IsAccessed lane s xs byte) (sym same) (by (bytes_of (size width) c == 0) refl)
            where
              bounds : (s.registers 6 ≤ byte) × (byte < s.registers 6 + s.registers 1 * size width)
              bounds = copy_takes width (s.registers 1) fits byte e

              by : (t : Bool) → (bytes_of (size width) c == 0) ≡ t → IsAccessed lane s (cond t [] (access false (a.registers 6) (Some (bytes_of (size width) c)) ∷ [])) byte
              by true f = absurd (let empty : bytes_of (size width) c ≡ 0 = eqb-true (bytes_of (size width) c) 0 f in let most = count.within in omega (arith, bounds, empty, most))
              by false f =
                  inl (near_range lane s (a.registers 6) (s.registers 6) (s.registers 1 * size width) (bytes_of (size width) c) byte
                  (record { word = word 6; member = held 6 (lit< tt); some = omega (arith, bounds); within = count.within; mapped = (copy_up width (s.registers 1) fits).mapped }) bounds)

  moved_repeats : (i : Instr) (o : Option Interval) → count_of a (size i.width) ≡ o → AreQuiet a p (range_of true (a.registers 7) (size i.width) o)
      → Gives s (IsAccessed lane s (range_of false (a.registers 6) (size i.width) o))
      (Goes image lane p a s d (next_place i) (range_of false (a.registers 6) (size i.width) o) (range_of true (a.registers 7) (size i.width) o) (cond (is_one o) (range_of true (a.registers 7) (size i.width) o) []) (moved_often (view_of a d p) i.width o))
      (rows.strung (repeated (movs_effects (size i.width))) i)
  unfolding repeated movs_effects whole_register flag_value
  moved_repeats i None is quiet = absurd quiet.0
  moved_repeats i (Some c) is quiet =
      let k = count_is image lane p a s known_ form (size i.width) c is in
      let reads = range_of false (a.registers 6) (size i.width) (Some c) in
      let R = IsAccessed lane s reads in
      let Q = Repeats i.width c k.0 k.1 i reads quiet (range.Copy (a.registers 6)) (grown (size i.width) c (a.registers 6)) in
      gives_bind s R Q _ (repeated (movs_effects (size i.width))) (λ es. goes_on i es)
      (gives_register s R Q 1 _
      (gives_if s R Q (s.registers 1 == 0) (gives []) _
      (λ empty. gives_this s R Q [] (idle_repeats i.width c k.0 k.1 i reads quiet (range.Copy (a.registers 6)) (grown (size i.width) c (a.registers 6)) (step_form i.width c k.0 k.1 6)
      (subst (λ j. HasValue lane (world_of s) j (grown (size i.width) c (a.registers 6))) (no_step i.width c k.0 k.1 6 (no_bytes (size i.width) (s.registers 1) (eqb-true (s.registers 1) 0 empty))) (step_has i.width c k.0 k.1 6 (lit< tt)))
      (eqb-true (s.registers 1) 0 empty)))
      (λ some. gives_flag s R Q 5 _ (gives_register s R Q 6 _ (gives_register s R Q 7 _
      (gives_this s R Q (copy_list i.width (s.registers 1) (s.flags 5)) (subst (λ down. Q (copy_list i.width (s.registers 1) down)) (sym k.0) (copy_repeats i.width c k.0 k.1 i reads quiet refl))))))))
      (λ es g. gives_this s R _ (going es (next_place i)) g)

  pub moved_goes : (repeat : Bool) (i : Instr) → AreQuiet a p (string_range true a repeat i.width (a.registers 7))
      → Gives s (IsAccessed lane s (string_range false a repeat i.width (a.registers 6)))
      (Goes image lane p a s d (next_place i) (string_range false a repeat i.width (a.registers 6)) (string_range true a repeat i.width (a.registers 7)) (always_written (op.Movs repeat) a i) (moved repeat (view_of a d p) i.width))
      (rows.strung (string_effects repeat (movs_effects (size i.width))) i)
  unfolding movs_effects whole_register flag_value always_written writes
  moved_goes false i quiet =
      let R = IsAccessed lane s (access false (a.registers 6) (Some (size i.width)) ∷ []) in
      gives_flag s R _ 5 _ (gives_register s R _ 6 _ (gives_register s R _ 7 _ (gives_this s R _ (going (one_copy i.width quiet.0) (next_place i)) (copied_once i.width quiet.0 i))))
  moved_goes true i quiet = moved_repeats i (count_of a (size i.width)) refl quiet

  -- -- Stores

  module _ (width : Width) (n : ℕ) where
    abbrev store_list : Bool → List Effect
    store_list down = filled down (size width) (s.registers 0) n (s.registers 7) ++ (sets Whole 7 (steps down (size width) n (s.registers 7)) ∷ []) ++ (sets Whole 1 0 ∷ [])

    abbrev last_two : List Effect
    last_two = sets Whole 7 (steps false (size width) n (s.registers 7)) ∷ sets Whole 1 0 ∷ []

    fills_fit : effects_fit image s.memory (store_list false) ≡ true → effects_fit image s.memory (filled false (size width) (s.registers 0) n (s.registers 7)) ≡ true
    fills_fit fits =
        let fs = filled false (size width) (s.registers 0) n (s.registers 7) in
        let one = sets Whole 7 (steps false (size width) n (s.registers 7)) ∷ [] in
        let first = and_parts (effects_fit image s.memory (fs ++ one)) (effects_fit image s.memory (sets Whole 1 0 ∷ [])) (sym (fit_append image s.memory (fs ++ one) (sets Whole 1 0 ∷ [])) ∙ fits) in
        (and_parts (effects_fit image s.memory fs) (effects_fit image s.memory one) (sym (fit_append image s.memory fs one) ∙ first.0)).0

    module _ (fits : effects_fit image s.memory (store_list false) ≡ true) where
      stores_up : Fills image s (size width) (s.registers 0) n (s.registers 7)
      stores_up = fills_up image (size width) (some_size width) (few_size width) (s.registers 0) n s (s.registers 7) is_low (fills_fit fits)

      store_strung : Strung (store_list false) (n * size width) (s.registers 6) (steps false (size width) n (s.registers 7))
      store_strung =
          let fs = filled false (size width) (s.registers 0) n (s.registers 7) in
          let one = sets Whole 7 (steps false (size width) n (s.registers 7)) ∷ [] in
          record {
            memory = (all_changed fs s).memory;
            is = changed_append (fs ++ one) (sets Whole 1 0 ∷ []) s ∙ ap (all_changed (sets Whole 1 0 ∷ [])) (changed_append fs one s)
                ∙ ap (all_changed last_two) (stores_up.is ∙ sym (set_same (with_memory s (all_changed fs s).memory) 6 (s.registers 6) refl (word 6)));
            stored = record { are_open = stores_up.opened; others = stores_up.others };
            write = λ x e. stores_up.write x (or_end _ (sym (write_append fs one (AtByte x)) ∙ or_end _ (sym (write_append (fs ++ one) (sets Whole 1 0 ∷ []) (AtByte x)) ∙ e)));
            all = λ k lt. write_append (fs ++ one) (sets Whole 1 0 ∷ []) (AtByte (s.registers 7 + k)) ∙ or_left _ _ (write_append fs one (AtByte (s.registers 7 + k)) ∙ or_left _ _ (stores_up.all k lt));
          }

      store_takes : (byte : ℕ) → effects_take (store_list false) (AtByte byte) ≡ true → ⊥
      store_takes byte e =
          let fs = filled false (size width) (s.registers 0) n (s.registers 7) in
          let one = sets Whole 7 (steps false (size width) n (s.registers 7)) ∷ [] in
          true≢false (sym (or_end _ (sym (take_append fs one (AtByte byte)) ∙ or_end _ (sym (take_append (fs ++ one) (sets Whole 1 0 ∷ []) (AtByte byte)) ∙ e))) ∙ stores_up.take byte)

  module _ (width : Width) (c : Interval) (up : s.flags 5 ≡ false) (count : IsCount (size width) (s.registers 1) c) (i : Instr) (quiet : AreQuiet a p (range_of true (a.registers 7) (size width) (Some c))) where
    stored_range : RangeValue
    stored_range = number_or_any width (known 32 (a.registers 0))

    -- EAX over and over, where it is known
    number_holds : (fits : effects_fit image s.memory (store_list width (s.registers 1) false) ≡ true) → s.registers 1 * size width ≡ bytes_of (size width) c
        → HoldsRange lane s (s.registers 7) (s.registers 1 * size width) (bytes_of (size width) c) (store_strung width (s.registers 1) fits).memory (number_or_any width (known 32 (a.registers 0)))
    unfolding store_strung
    number_holds fits whole = by (known 32 (a.registers 0)) refl
      where
        memory : Bytes
        memory = (store_strung width (s.registers 1) fits).memory

        by : (o : Option ℕ) → known 32 (a.registers 0) ≡ o → HoldsRange lane s (s.registers 7) (s.registers 1 * size width) (bytes_of (size width) c) (store_strung width (s.registers 1) fits).memory (number_or_any width o)
        by None e = tt
        by (Some k) e =
            let own : k ≡ s.registers 0 = known_is lane (world_of s) (s.registers 0) (word 0) 32 (a.registers 0) k e (held 0 (lit< tt)) in
            let up = stores_up width (s.registers 1) fits in
            subst (λ j. HoldsRange lane s (s.registers 7) (s.registers 1 * size width) (bytes_of (size width) c) (store_strung width (s.registers 1) fits).memory (range.Number j width)) (sym own)
            (whole, repeated_read (store_strung width (s.registers 1) fits).memory (s.registers 7) (size width) (s.registers 0) (bytes_of (size width) c) (λ j lt. up.held j (subst (λ l. j < l) (sym whole) lt)))

    store_repeats : Repeats width c up count i [] quiet (number_or_any width (known 32 (a.registers 0))) (a.registers 6) (store_list width (s.registers 1) false)
    store_repeats =
        often_goes (bytes_of (size width) c) (s.registers 1 * size width) (if_alone c (number_or_any width (known 32 (a.registers 0)))) (store_list width (s.registers 1) false)
        (s.registers 6) (steps false (size width) (s.registers 1) (s.registers 7)) count.within
        (a.registers 6) (grown (size width) c (a.registers 7)) (form.registers 6) (step_form width c up count 7) (word 6) (stepped_word false (size width) (s.registers 1) (s.registers 7))
        (held 6 (lit< tt)) (step_has width c up count 7 (lit< tt)) (λ e. (refl, no_step width c up count 7 e)) i []
        (λ byte fits e. absurd (store_takes width (s.registers 1) fits byte e)) (store_strung width (s.registers 1))
        (λ some fits. alone_holds width c up count (s.registers 1 * size width) (number_or_any width (known 32 (a.registers 0))) (store_strung width (s.registers 1) fits).memory (number_holds fits))
        (c.stride == 0) (λ single. count.alone (eqb-true c.stride 0 single)) (bytes_of (size width) c == 0) refl quiet

  stored_repeats : (i : Instr) (o : Option Interval) → count_of a (size i.width) ≡ o → AreQuiet a p (range_of true (a.registers 7) (size i.width) o)
      → Gives s (IsAccessed lane s [])
      (Goes image lane p a s d (next_place i) [] (range_of true (a.registers 7) (size i.width) o) (cond (is_one o) (range_of true (a.registers 7) (size i.width) o) []) (stored_often (view_of a d p) i.width o))
      (rows.strung (repeated (stos_effects (size i.width))) i)
  unfolding repeated stos_effects whole_register flag_value
  stored_repeats i None is quiet = absurd quiet.0
  stored_repeats i (Some c) is quiet =
      let k = count_is image lane p a s known_ form (size i.width) c is in
      let R = IsAccessed lane s [] in
      let Q = Repeats i.width c k.0 k.1 i [] quiet (number_or_any i.width (known 32 (a.registers 0))) (a.registers 6) in
      gives_bind s R Q _ (repeated (stos_effects (size i.width))) (λ es. goes_on i es)
      (gives_register s R Q 1 _
      (gives_if s R Q (s.registers 1 == 0) (gives []) _
      (λ empty. gives_this s R Q [] (idle_repeats i.width c k.0 k.1 i [] quiet (number_or_any i.width (known 32 (a.registers 0))) (a.registers 6) (form.registers 6) (held 6 (lit< tt)) (eqb-true (s.registers 1) 0 empty)))
      (λ some. gives_flag s R Q 5 _ (gives_register s R Q 0 _ (gives_register s R Q 7 _
      (gives_this s R Q (store_list i.width (s.registers 1) (s.flags 5)) (subst (λ down. Q (store_list i.width (s.registers 1) down)) (sym k.0) (store_repeats i.width c k.0 k.1 i quiet))))))))
      (λ es g. gives_this s R _ (going es (next_place i)) g)

  pub filled_goes : (repeat : Bool) (i : Instr) → AreQuiet a p (string_range true a repeat i.width (a.registers 7))
      → Gives s (IsAccessed lane s []) (Goes image lane p a s d (next_place i) [] (string_range true a repeat i.width (a.registers 7)) (always_written (op.Stos repeat) a i) (stored repeat (view_of a d p) i.width))
      (rows.strung (string_effects repeat (stos_effects (size i.width))) i)
  unfolding stos_effects whole_register flag_value always_written writes
  filled_goes false i quiet =
      let R = IsAccessed lane s [] in
      gives_flag s R _ 5 _ (gives_register s R _ 0 _ (gives_register s R _ 7 _ (gives_this s R _ (going (one_store i.width quiet.0) (next_place i)) (stored_once_goes i.width quiet.0 i))))
  filled_goes true i quiet = stored_repeats i (count_of a (size i.width)) refl quiet

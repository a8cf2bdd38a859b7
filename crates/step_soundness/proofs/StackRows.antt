-- The rows of the stack: push, pop and leave.
use Rattle.std.proofs.Common.{◌≡◌, inl, inr, ℕ, ◌+◌, ◌-◌, ◌*◌, ◌%◌, ◌^◌, ◌<◌, ◌==◌, Bool, true, false, cond, List, [], ◌∷◌, Option, Some, None, refl, sym, ◌∙◌, ap, subst, arith, lit<}
use Rattle.std.specs.Option.{option_map}
use Rattle.std.specs.List.{list_any}
use Rattle.std.proofs.lemmas.Bool.{false≢true, true≢false, cond_both, eqb-true, eq-eqb, and_parts, or_left}
use Rattle.std.proofs.lemmas.Option.{none-some, same_Some}
use Rattle.image_map.specs.declared.image.Image.{Image}
use Rattle.ia32_types.specs.declared.Mem.{Mem}
use Rattle.ia32_types.specs.declared.Reg.{Reg}
use Rattle.ia32_types.specs.declared.Reg.TheVariants.{Esp}
use Rattle.ia32_types.specs.declared.Instr.{Instr}
use Rattle.ia32_types.specs.declared.Operand.{Operand}
use Rattle.ia32_types.specs.declared.Operand.TheVariants as operand
use Rattle.ia32_types.specs.declared.Width.{Width}
use Rattle.ia32_types.specs.declared.Width.TheVariants.{D32}
use Rattle.ia32_types.specs.Numbers.{reg_number, reg_of, size}
use Rattle.ia32_types.specs.Operands.{IsAddress, IsIndex, IsTarget, IsValue, HasOne}
use Rattle.ia32_types.proofs.NumberLemmas.{reg_number_below, reg_of_number}
use Rattle.ia32_semantics.specs.Effects.{Effect, Whole, sets, stores, changed, with_part, effects_write}
use Rattle.ia32_semantics.specs.Operands as machine
use Rattle.ia32_semantics.specs.Operands.{bits, number_bytes, part_of, stored_number, is_esp, raised}
use Rattle.ia32_semantics.specs.Outcome.{going}
use Rattle.ia32_semantics.specs.Reading.{gives, faults, ◌>>=◌}
use Rattle.ia32_semantics.specs.Rows as rows
use Rattle.ia32_semantics.specs.Rows.{next_place, goes_on}
use Rattle.ia32_semantics.specs.State.{State, bytes_at, little_endian, put, AtByte}
use Rattle.ia32_semantics.proofs.EffectLemmas.{put_here, put_other}
use Rattle.alocs.specs.Cells.{Division}
use Rattle.vset.specs.Values.{Values, CanonicalValues}
use Rattle.vset.specs.Members.{HasValue}
use Rattle.abs_semantics.specs.States.{AbsState, HasCanonical}
use Rattle.abs_semantics.specs.StandsFor.{world_of}
use Rattle.abs_semantics.specs.Ownership.{IsKnown}
use Rattle.abs_semantics.specs.Operands.{address, with_register}
use Rattle.abs_semantics.specs.Resolve.{Resolved, resolve}
use Rattle.abs_semantics.specs.Touching.{touches_slot}
use Rattle.abs_steps.specs.declared.accesses.Access.{Access}
use Rattle.abs_steps.specs.Accesses.{access, word_at, of_operand, word_pushed}
use Rattle.abs_steps.specs.Effects.{puts, saves}
use Rattle.abs_steps.specs.Rows as steps
use Rattle.abs_steps.specs.Rows.{view_of, pushed_at, risen}
use Rattle.abs_steps.specs.Views as views
use Rattle.abs_steps.specs.Views.{value_of, stored_at, store, store_to}
use Rattle.step_soundness.specs.Accessed.{IsNear, IsWithin, IsAccessed, IsFilledBy, AreFilled}
use Rattle.step_soundness.specs.Terms.{register_or_zero, address_in}
use Rattle.step_soundness.proofs.EndLaws.{Leads, goes_follow, goes_leads}
use Rattle.step_soundness.proofs.GivenLaws.{Gives, gives_bind, gives_this, gives_none, gives_register, gives_more}
use Rattle.step_soundness.proofs.OperandLaws.{number_outcome, number_below, registers_hold, stored_has}
use Rattle.step_soundness.proofs.OperationLaws.{with_operands}
use Rattle.step_soundness.proofs.PointerLaws.{pushed_has, risen_has, address_has, address_form}
use Rattle.step_soundness.proofs.ReadLaws.{cut_has, stored_near, address_gives}
use Rattle.step_soundness.proofs.RowLaws.{Row, Has, read_gives, value_canonical, spelt_address, spelt_value}
use Rattle.step_soundness.proofs.SinceLaws.{Since, since_itself, since_later}
use Rattle.step_soundness.proofs.StoreLaws.{some_size}
use Rattle.step_soundness.proofs.ValueForms.{pushed_form, risen_form, stored_form}
use Rattle.step_soundness.proofs.WriteLaws.{IsQuiet, AreQuiet, Follows, sets_since, sets_follow, saves_since, saves_near, saves_filled, saves_follow, or_end}

-- what is accessed in a state with other registers is accessed in the state
near_back : (lane : ℕ) (s : State) (registers : ℕ → ℕ) (v : Values) (len byte : ℕ) → IsNear lane (record s { registers = registers }) v len byte → IsNear lane s v len byte
near_back lane s registers v len byte h =
    record {
      at = h.at;
      count = h.count;
      range = record { word = h.range.word; member = h.range.member; some = h.range.some; within = h.range.within; mapped = h.range.mapped };
      distance = h.distance;
      near = h.near;
      is = h.is;
    }

pub accessed_back : (lane : ℕ) (s : State) (registers : ℕ → ℕ) (xs : List Access) (byte : ℕ) → IsAccessed lane (record s { registers = registers }) xs byte → IsAccessed lane s xs byte
accessed_back lane s registers [] byte h = absurd h
accessed_back lane s registers (x ∷ xs) byte (inl h) = inl (by x.len h)
  where
    by : (l : Option ℕ) → IsWithin lane (record s { registers = registers }) x.addr l byte → IsWithin lane s x.addr l byte
    by None h = tt
    by (Some len) h = near_back lane s registers x.addr len byte h
accessed_back lane s registers (x ∷ xs) byte (inr h) = inr (accessed_back lane s registers xs byte h)

filled_back : (lane : ℕ) (s : State) (registers : ℕ → ℕ) (test : ℕ → Bool) (xs : List Access) → AreFilled lane (record s { registers = registers }) test xs → AreFilled lane s test xs
filled_back lane s registers test [] h = tt
filled_back lane s registers test (x ∷ xs) h = (by x.len h.0, filled_back lane s registers test xs h.1)
  where
    by : (l : Option ℕ) → IsFilledBy lane (record s { registers = registers }) test x.addr l → IsFilledBy lane s test x.addr l
    by None h = tt
    by (Some len) h =
        record { at = h.at; range = record { word = h.range.word; member = h.range.member; some = h.range.some; within = h.range.within; mapped = h.range.mapped }; filled = h.filled }

-- accesses stay quiet where places are resolved alike
pub quiet_since : (a b : AbsState) (p : ℕ) → ((v : Values) (len : ℕ) → resolve b p v len ≡ resolve a p v len) → (xs : List Access) → AreQuiet a p xs → AreQuiet b p xs
quiet_since a b p same [] h = tt
quiet_since a b p same (x ∷ xs) h = (by x.len h.0, quiet_since a b p same xs h.1)
  where
    by : (l : Option ℕ) → IsQuiet a p x.addr l → IsQuiet b p x.addr l
    by None h = h
    by (Some len) h = (ap (λ (r : Resolved). r.reasons) (same x.addr len) ∙ h.0, ap (λ (r : Resolved). list_any (touches_slot len) r.entries) (same x.addr len) ∙ h.1)

module _ (image : Image) (lane p : ℕ) (a : AbsState) (s : State) (d : Division) (known_ : IsKnown image lane a p s) (form : HasCanonical a) where
  sized : (n : ℕ) → s.registers n < 4294967296
  sized n = known_.whole.laid_out.sized.registers n

  -- a number at an address that a value has
  pub number_gives : (R : ℕ → Type 0) (width : Width) (at : ℕ) (v : Values) → at < 4294967296 → HasValue lane (world_of s) at v → ((byte : ℕ) → IsNear lane s v (size width) byte → R byte)
      → Gives s R (λ n. HasValue lane (world_of s) n (stored_at (view_of a d p) width v) × (n < 2 ^ bits width)) (stored_number (size width) at)
  number_gives R width at v word has there =
      record {
        given = λ words rest n e. by words rest n (bytes_at s.memory at (size width)) refl (sym (number_outcome (size width) at s words) ∙ e);
        asked = λ words rest n e byte f. there byte (stored_near lane s (size width) at v word (some_size width) has words rest n e byte f);
      }
    where
      by : (words rest : List ℕ) (n : ℕ) (o : Option (List ℕ)) → bytes_at s.memory at (size width) ≡ o → option_map {U = ℕ × List ℕ} (λ bytes. (little_endian bytes, words)) o ≡ Some (n, rest)
          → HasValue lane (world_of s) n (stored_at (view_of a d p) width v) × (n < 2 ^ bits width)
      by words rest n None f g = absurd (none-some _ g)
      by words rest n (Some bytes) f g =
          let same : little_endian bytes ≡ n = ap (λ (x : ℕ × List ℕ). x.0) (same_Some (little_endian bytes, words) (n, rest) g) in (
            subst (λ k. HasValue lane (world_of s) k (stored_at (view_of a d p) width v)) same (stored_has image lane a p s d known_ form width at v bytes word has f),
            subst (λ k. k < 2 ^ bits width) same (number_below image lane a p s d known_ form width at bytes f),
          )

  -- -- Push

  push_word : ℕ → ℕ
  push_word sp = (sp + 4294967296 - 4) % 4294967296

  pub push_follows : (n : ℕ) (w : Values) → CanonicalValues w → HasValue lane (world_of s) (n % 4294967296) w → IsQuiet a p (pushed_at (a.registers 4)) (Some 4)
      → Follows image lane p a s d (word_pushed a) (puts Whole 4 (pushed_at (a.registers 4)) ∷ saves (pushed_at (a.registers 4)) 4 w ∷ []) (rows.push_effects (s.registers 4) n)
  push_follows n w fw has quiet =
      let at = (s.registers 4 + 4294967296 - 4) % 4294967296 in
      let below : at < 4294967296 = omega arith in
      let same : at ≡ at % 4294967296 = omega (arith, below) in
      let v = pushed_at (a.registers 4) in
      let fv : CanonicalValues v = pushed_form (a.registers 4) (form.registers 4) in
      let held : HasValue lane (world_of s) at v = pushed_has lane (world_of s) (a.registers 4) (form.registers 4) (s.registers 4) (known_.stands.registers 4 (lit< tt)) in
      record {
        since = λ b t h fits.
            saves_since image lane p a s d known_ form D32 at n v w fv fw below held has quiet _ _
            (sets_since image lane p a s d known_ form D32 4 at v (lit< tt) fv (subst (λ k. HasValue lane (world_of s) k v) same held) b t h) (and_parts _ _ fits).0;
        written = λ byte fits e. inl (saves_near image lane p a s d known_ form D32 at n v w fv fw below held has quiet byte (and_parts _ _ fits).0 (or_end _ e));
        taken = λ byte. refl;
        filled = λ fits. (
          saves_filled image lane p a s d known_ form D32 at n v w fv fw below held has quiet (and_parts _ _ fits).0
              (λ byte. effects_write (rows.push_effects (s.registers 4) n) (AtByte byte)) (λ byte e. or_left _ _ e),
          tt,
        );
      }

  pub pushed_goes : (i : Instr) (dst src : Option Operand) (imm : Option ℕ) → i.width ≡ D32 → HasOne (IsValue D32) dst src imm → AreQuiet a p (word_pushed a)
      → Gives s (IsAccessed lane s (of_operand false a i.width dst))
      (Row image lane p a s d known_ form i (of_operand false a i.width dst) (word_pushed a) (steps.pushed (view_of a d p) (with_operands i dst src imm)))
      (rows.pushed (with_operands i dst src imm))
  unfolding machine.whole_register
  pushed_goes i (Some x) None None wide fits quiet =
      let reads = of_operand false a i.width (Some x) in
      let R = IsAccessed lane s reads in
      let fx = spelt_value D32 x fits in
      let w = value_of (view_of a d p) i.width (Some x) in
      gives_bind s R (Has image lane p a s d known_ form i.width x) _ (machine.value_of i.width (Some x)) _ (read_gives image lane p a s d known_ form R i.width x fx (λ byte h. h)) (λ n hn.
      gives_register s R _ 4 _
      (gives_this s R _ (going (rows.push_effects (s.registers 4) n) (next_place i))
      (goes_follow image lane p a s d known_ form (next_place i) reads (word_pushed a) (puts Whole 4 (pushed_at (a.registers 4)) ∷ saves (pushed_at (a.registers 4)) 4 w ∷ []) (rows.push_effects (s.registers 4) n)
      (push_follows n w (value_canonical image lane p a s d known_ form i.width x fx) (subst (λ u. HasValue lane (world_of s) (n % 2 ^ bits u) w) wide (cut_has lane (world_of s) i.width w n hn.0)) quiet.0))))
  pushed_goes i None src imm wide fits quiet = absurd fits
  pushed_goes i (Some x) (Some y) imm wide fits quiet = absurd fits
  pushed_goes i (Some x) None (Some n) wide fits quiet = absurd fits

  -- -- Leave

  pub left_goes : (i : Instr) → Gives s (IsAccessed lane s (word_at false (a.registers 5) ∷ []))
      (Row image lane p a s d known_ form i (word_at false (a.registers 5) ∷ []) [] (steps.left (view_of a d p)))
      (rows.left i)
  unfolding machine.whole_register
  left_goes i =
      let reads = word_at false (a.registers 5) ∷ [] in
      let R = IsAccessed lane s reads in
      let bp = s.registers 5 in
      let held = known_.stands.registers 5 (lit< tt) in
      let above : (bp + 4) % 4294967296 ≡ (bp + 4) % 4294967296 % 4294967296 = omega arith in
      gives_register s R _ 5 _
      (gives_bind s R _ _ (stored_number 4 bp) _ (number_gives R D32 bp (a.registers 5) (sized 5) held (λ byte h. inl h)) (λ n hn.
      let own : n ≡ n % 4294967296 = omega (arith, hn) in
      let w = stored_at (view_of a d p) D32 (a.registers 5) in
      gives_this s R _ (going (sets Whole 4 ((bp + 4) % 4294967296) ∷ sets Whole 5 n ∷ []) (next_place i))
      (goes_leads image lane p a s d known_ form (next_place i) reads [] (steps.left (view_of a d p)) (sets Whole 4 ((bp + 4) % 4294967296) ∷ sets Whole 5 n ∷ [])
      (λ byte f. absurd (false≢true f))
      (record {
        since = λ fits.
            sets_since image lane p a s d known_ form D32 5 n w (lit< tt) (stored_form a form d p D32 (a.registers 5)) (subst (λ k. HasValue lane (world_of s) k w) own hn.0) _ _
            (sets_since image lane p a s d known_ form D32 4 ((bp + 4) % 4294967296) (risen (a.registers 5)) (lit< tt) (risen_form (a.registers 5) (form.registers 5))
            (subst (λ k. HasValue lane (world_of s) k (risen (a.registers 5))) above (risen_has lane (world_of s) (a.registers 5) (form.registers 5) bp held)) a s (since_itself image lane p a s known_ form));
        written = λ byte fits f. absurd (false≢true f);
        filled = λ fits. tt;
      }))))

  -- -- Pop

  -- the state after ESP has risen
  abbrev pub raised_abs : AbsState
  raised_abs = with_register a Whole 4 (risen (a.registers 4))

  abbrev pub raised_state : State
  raised_state = changed (sets Whole 4 ((s.registers 4 + 4) % 4294967296)) s

  pub raised_since : Since image lane p a s raised_abs raised_state
  raised_since =
      let above : (s.registers 4 + 4) % 4294967296 ≡ (s.registers 4 + 4) % 4294967296 % 4294967296 = omega arith in
      sets_since image lane p a s d known_ form D32 4 ((s.registers 4 + 4) % 4294967296) (risen (a.registers 4)) (lit< tt) (risen_form (a.registers 4) (form.registers 4))
      (subst (λ k. HasValue lane (world_of s) k (risen (a.registers 4))) above (risen_has lane (world_of s) (a.registers 4) (form.registers 4) (s.registers 4) (known_.stands.registers 4 (lit< tt)))) a s
      (since_itself image lane p a s known_ form)

  -- an address that ESP is a part of is made with the new one
  other_kept : (r : Reg) → (4 == reg_number r) ≡ false → register_or_zero raised_state (Some r) ≡ register_or_zero s (Some r)
  other_kept r e = put_other s.registers 4 (with_part Whole (s.registers 4) ((s.registers 4 + 4) % 4294967296)) (reg_number r) e

  esp_raised : (r : Reg) → (4 == reg_number r) ≡ true → register_or_zero raised_state (Some r) ≡ (register_or_zero s (Some r) + 4) % 4294967296
  unfolding with_part
  esp_raised r e =
      let here : put s.registers 4 ((s.registers 4 + 4) % 4294967296 % 4294967296) (reg_number r) ≡ (s.registers 4 + 4) % 4294967296 % 4294967296 = put_here s.registers 4 ((s.registers 4 + 4) % 4294967296 % 4294967296) (reg_number r) e in
      let twice : (s.registers 4 + 4) % 4294967296 % 4294967296 ≡ (s.registers 4 + 4) % 4294967296 = omega arith in
      here ∙ twice ∙ ap (λ k. (s.registers k + 4) % 4294967296) (eqb-true 4 (reg_number r) e)

  turned : (r : Reg) (b : Bool) → (reg_number r == 4) ≡ b → (4 == reg_number r) ≡ b
  turned r true e = eq-eqb 4 (reg_number r) (sym (eqb-true (reg_number r) 4 e))
  turned r false e = by (4 == reg_number r) refl
    where
      by : (c : Bool) → (4 == reg_number r) ≡ c → c ≡ false
      by true f = absurd (true≢false (sym (eq-eqb (reg_number r) 4 (sym (eqb-true 4 (reg_number r) f))) ∙ e))
      by false f = refl

  no_esp : (r : Reg) → (r ≡ Esp → ⊥) → (4 == reg_number r) ≡ false
  no_esp r h = by (4 == reg_number r) refl
    where
      by : (c : Bool) → (4 == reg_number r) ≡ c → c ≡ false
      by true f = absurd (h (sym (reg_of_number r) ∙ ap reg_of (sym (eqb-true 4 (reg_number r) f)) ∙ reg_of_number Esp))
      by false f = refl

  index_kept : (o : Option Reg) (scale : ℕ) → IsIndex o scale → register_or_zero raised_state o ≡ register_or_zero s o
  index_kept None scale is = refl
  index_kept (Some r) scale is = other_kept r (no_esp r is)

  abbrev risen_mem : Mem → Mem
  risen_mem m = record m { disp = (m.disp + 4) % 4294967296 }

  raised_address : (m : Mem) → IsAddress m → is_esp m.base ≡ true → address_in s (risen_mem m) ≡ address_in raised_state m
  raised_address m is e = by m.base e
    where
      by : (o : Option Reg) → is_esp o ≡ true
          → (register_or_zero s o + register_or_zero s m.index * m.scale + (m.disp + 4) % 4294967296) % 4294967296 ≡ (register_or_zero raised_state o + register_or_zero raised_state m.index * m.scale + m.disp) % 4294967296
      by None e = absurd (false≢true e)
      by (Some r) e =
          let base : register_or_zero raised_state (Some r) ≡ (register_or_zero s (Some r) + 4) % 4294967296 = esp_raised r (turned r true e) in
          let index : register_or_zero raised_state m.index * m.scale ≡ register_or_zero s m.index * m.scale = ap (λ k. k * m.scale) (index_kept m.index m.scale is.index) in
          omega (arith, base, index)

  plain_address : (m : Mem) → IsAddress m → is_esp m.base ≡ false → address_in s m ≡ address_in raised_state m
  plain_address m is e = by m.base e
    where
      by : (o : Option Reg) → is_esp o ≡ false → (register_or_zero s o + register_or_zero s m.index * m.scale + m.disp) % 4294967296 ≡ (register_or_zero raised_state o + register_or_zero raised_state m.index * m.scale + m.disp) % 4294967296
      by None e = ap (λ k. (0 + k * m.scale + m.disp) % 4294967296) (sym (index_kept m.index m.scale is.index))
      by (Some r) e =
          ap (λ k. (k + register_or_zero s m.index * m.scale + m.disp) % 4294967296) (sym (other_kept r (turned r false e)))
          ∙ ap (λ k. (register_or_zero raised_state (Some r) + k * m.scale + m.disp) % 4294967296) (sym (index_kept m.index m.scale is.index))

  module _ (n : ℕ) (w : Values) (fw : CanonicalValues w) (has : HasValue lane (world_of s) (n % 4294967296) w) where
    abbrev After : Operand → List Effect → Type 0
    After x es = Follows image lane p raised_abs raised_state d (of_operand true raised_abs D32 (Some x)) (store (view_of raised_abs d p) D32 x w) es

    memory_popped : (m q : Mem) (gs : Bool) → gs ≡ false → IsAddress m → address_in s q ≡ address_in raised_state m → AreQuiet raised_abs p (cond gs [] (access true (address raised_abs m) (Some 4) ∷ []))
        → Gives s (λ byte. ⊥) (Follows image lane p raised_abs raised_state d (cond gs [] (access true (address raised_abs m) (Some 4) ∷ [])) (cond gs [] (saves (address raised_abs m) 4 w ∷ [])))
        (cond gs faults (machine.address q >>= (λ at. gives (stores at (number_bytes 4 n) ∷ []))))
    memory_popped m q true e is same quiet = gives_none s (λ byte. ⊥) _
    memory_popped m q false e is same quiet =
        let known1 = raised_since.known in
        let form1 = raised_since.form in
        let hold = registers_hold image lane raised_abs p raised_state d known1 form1 in
        let spelt = spelt_address m is in
        gives_bind s (λ byte. ⊥) (λ at. at ≡ address_in s q) _ (machine.address q) _ (address_gives s (λ byte. ⊥) q) (λ at e.
        gives_this s (λ byte. ⊥) _ (stores at (number_bytes 4 n) ∷ [])
        (saves_follow image lane p raised_abs raised_state d known1 form1 D32 at n (address raised_abs m) w (address_form lane (world_of s) raised_abs raised_state hold m (omega (arith, spelt)) spelt.1) fw
        (subst (λ x. x < 4294967296) (sym e) (omega arith))
        (subst (λ x. HasValue lane (world_of s) x (address raised_abs m)) (sym (e ∙ same)) (address_has lane (world_of s) raised_abs raised_state hold m (omega (arith, spelt)) spelt.1)) has quiet.0))

    popped_follows : (x : Operand) → IsTarget D32 x → AreQuiet raised_abs p (of_operand true raised_abs D32 (Some x)) → Gives s (λ byte. ⊥) (After x) (machine.store_to D32 (raised (Some x)) n)
    unfolding machine.store_to machine.store store
    popped_follows (operand.Reg r) target quiet =
        gives_this s (λ byte. ⊥) _ (sets Whole (reg_number r) n ∷ []) (sets_follow image lane p raised_abs raised_state d raised_since.known raised_since.form D32 (reg_number r) n w (reg_number_below r) fw has)
    popped_follows (operand.High r) target quiet = absurd target
    popped_follows (operand.Imm k) target quiet = absurd target
    popped_follows (operand.Mem m) target quiet =
        cond_both (is_esp m.base) (Some (operand.Mem (risen_mem m))) (Some (operand.Mem m)) (λ o. Gives s (λ byte. ⊥) (After (operand.Mem m)) (machine.store_to D32 o n))
        (λ yes. memory_popped m (risen_mem m) m.gs target.1 target.0 (raised_address m target.0 yes) quiet)
        (λ no_. memory_popped m m m.gs target.1 target.0 (plain_address m target.0 no_) quiet)

  popped_lead : (x : Operand) (es : List Effect) (n : ℕ) (w : Values) → Follows image lane p raised_abs raised_state d (of_operand true raised_abs D32 (Some x)) (store (view_of raised_abs d p) D32 x w) es
      → Leads image lane p a s d (of_operand true raised_abs D32 (Some x)) (puts Whole 4 (risen (a.registers 4)) ∷ store (view_of raised_abs d p) D32 x w) (sets Whole 4 ((s.registers 4 + 4) % 4294967296) ∷ es)
  popped_lead x es n w f =
      record {
        since = λ fits.
            since_later image lane p a raised_abs _ s raised_state _ raised_since
            (f.since raised_abs raised_state (since_itself image lane p raised_abs raised_state raised_since.known raised_since.form) fits);
        written = λ byte fits e. accessed_back lane s raised_state.registers (of_operand true raised_abs D32 (Some x)) byte (f.written byte fits e);
        filled = λ fits. filled_back lane s raised_state.registers (λ byte. effects_write es (AtByte byte)) (of_operand true raised_abs D32 (Some x)) (f.filled fits);
      }

  abbrev popped_instr : Instr → Width → Option Operand → Option Operand → Option ℕ → Instr
  popped_instr i width dst src imm = record i { width = width; dst = dst; src = src; imm = imm }

  popped_wide : (i : Instr) (dst src : Option Operand) (imm : Option ℕ) → HasOne (IsTarget D32) dst src imm → AreQuiet a p (of_operand true raised_abs D32 dst)
      → Gives s (IsAccessed lane s (word_at false (a.registers 4) ∷ []))
      (Row image lane p a s d known_ form i (word_at false (a.registers 4) ∷ []) (of_operand true raised_abs D32 dst) (steps.popped (view_of a d p) (popped_instr i D32 dst src imm)))
      (rows.popped (popped_instr i D32 dst src imm))
  unfolding machine.whole_register views.store_to
  popped_wide i (Some x) None None fits quiet =
      let reads = word_at false (a.registers 4) ∷ [] in
      let R = IsAccessed lane s reads in
      let w = stored_at (view_of a d p) D32 (a.registers 4) in
      let writes = of_operand true raised_abs D32 (Some x) in
      gives_register s R _ 4 _
      (gives_bind s R _ _ (stored_number 4 (s.registers 4)) _ (number_gives R D32 (s.registers 4) (a.registers 4) (sized 4) (known_.stands.registers 4 (lit< tt)) (λ byte h. inl h)) (λ n hn.
      let own : n ≡ n % 4294967296 = omega (arith, hn) in
      let fw = stored_form a form d p D32 (a.registers 4) in
      gives_bind s R (Follows image lane p raised_abs raised_state d writes (store (view_of raised_abs d p) D32 x w)) _ (machine.store_to D32 (raised (Some x)) n) _
      (gives_more s (λ byte. ⊥) R _ _ _ (λ byte h. absurd h) (λ es f. f)
      (popped_follows n w fw (subst (λ k. HasValue lane (world_of s) k w) own hn.0) x fits (quiet_since a raised_abs p raised_since.resolves writes quiet))) (λ stored f.
      gives_this s R _ (going (sets Whole 4 ((s.registers 4 + 4) % 4294967296) ∷ stored) (next_place i))
      (goes_leads image lane p a s d known_ form (next_place i) reads writes (puts Whole 4 (risen (a.registers 4)) ∷ store (view_of raised_abs d p) D32 x w) (sets Whole 4 ((s.registers 4 + 4) % 4294967296) ∷ stored)
      (λ byte e. absurd (false≢true (sym (f.taken byte) ∙ e))) (popped_lead x stored n w f)))))
  popped_wide i None src imm fits quiet = absurd fits
  popped_wide i (Some x) (Some y) imm fits quiet = absurd fits
  popped_wide i (Some x) None (Some n) fits quiet = absurd fits

  pub popped_goes : (i : Instr) (dst src : Option Operand) (imm : Option ℕ) → i.width ≡ D32 → HasOne (IsTarget D32) dst src imm → AreQuiet a p (of_operand true raised_abs i.width dst)
      → Gives s (IsAccessed lane s (word_at false (a.registers 4) ∷ []))
      (Row image lane p a s d known_ form i (word_at false (a.registers 4) ∷ []) (of_operand true raised_abs i.width dst) (steps.popped (view_of a d p) (popped_instr i i.width dst src imm)))
      (rows.popped (popped_instr i i.width dst src imm))
  popped_goes i dst src imm wide fits =
      subst (λ width. AreQuiet a p (of_operand true raised_abs width dst)
      → Gives s (IsAccessed lane s (word_at false (a.registers 4) ∷ []))
      (Row image lane p a s d known_ form i (word_at false (a.registers 4) ∷ []) (of_operand true raised_abs width dst) (steps.popped (view_of a d p) (popped_instr i width dst src imm)))
      (rows.popped (popped_instr i width dst src imm))) (sym wide) (popped_wide i dst src imm fits)

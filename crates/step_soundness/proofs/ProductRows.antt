-- Products and quotients.
use Rattle.std.proofs.Common.{◌≡◌, ◌⊎◌, inl, inr, ℕ, zero, suc, ◌+◌, ◌-◌, ◌*◌, ◌/◌, ◌%◌, ◌^◌, ◌<◌, ◌≤◌, ◌==◌, ◌||◌, Bool, true, false, cond, List, [], ◌∷◌, ◌++◌, Option, Some, None, refl, sym, ◌∙◌, ap, subst, arith, lit<}
use Rattle.std.specs.Prelude.{nat_le, nat_lt}
use Rattle.std.proofs.lemmas.Bool.{false≢true, cond_both, eqb-true, eq-eqb, eqb-false, leb-true, leb-false, ltb-true}
use Rattle.std.proofs.lemmas.Nat.{mod_below}
use Rattle.std.proofs.lemmas.Option.{none-some, same_Some}
use Rattle.image_map.specs.declared.image.Image.{Image}
use Rattle.ia32_types.specs.declared.Op.{Op}
use Rattle.ia32_types.specs.declared.Op.TheVariants as op
use Rattle.ia32_types.specs.declared.Instr.{Instr}
use Rattle.ia32_types.specs.declared.Reg.TheVariants.{Eax}
use Rattle.ia32_types.specs.declared.Operand.{Operand}
use Rattle.ia32_types.specs.declared.Operand.TheVariants as operand
use Rattle.ia32_types.specs.declared.Width.{Width}
use Rattle.ia32_types.specs.declared.Width.TheVariants.{B8, W16, D32}
use Rattle.ia32_types.specs.Operands.{IsPlace, IsTarget, HasOne, IsProduct}
use Rattle.ia32_semantics.specs.declared.flags.Flags.{Flags}
use Rattle.ia32_semantics.specs.declared.flags.FlagsOut.{FlagsOut}
use Rattle.ia32_semantics.specs.Alu.{sign}
use Rattle.ia32_semantics.specs.Division.{dividend, unsigned_division, signed_as, magnitude, quotient_fits, division_of_sizes, signed_division, division, division_flags}
use Rattle.ia32_semantics.specs.Effects.{Whole, Word, Low, High, sets, changed, with_part, effects_take}
use Rattle.ia32_semantics.specs.Operands as machine
use Rattle.ia32_semantics.specs.Operands.{bits, low_part}
use Rattle.ia32_semantics.specs.Outcome.{going}
use Rattle.ia32_semantics.specs.Product.{product_low, product_high, product_flags}
use Rattle.ia32_semantics.specs.Rows as rows
use Rattle.ia32_semantics.specs.Rows.{next_place, goes_on}
use Rattle.ia32_semantics.specs.State.{State, AtByte, put}
use Rattle.ia32_semantics.proofs.EffectLemmas.{put_other, put_here, or_false_left, or_false_right}
use Rattle.alocs.specs.Cells.{Division}
use Rattle.vset.specs.Values.{Values, Top, CanonicalValues}
use Rattle.vset.specs.Members.{HasValue}
use Rattle.abs_alu.specs.Computed.{is_computed, computed, computed_flags}
use Rattle.abs_alu.specs.Operands.{takes_second, known}
use Rattle.abs_alu.specs.Results.{value}
use Rattle.abs_alu.specs.Runs.{AreAfter}
use Rattle.abs_alu.proofs.WordLemmas.{known_is}
use Rattle.abs_semantics.specs.States.{AbsState, HasCanonical}
use Rattle.abs_semantics.specs.StandsFor.{world_of}
use Rattle.abs_semantics.specs.Ownership.{IsKnown}
use Rattle.abs_semantics.specs.Operands.{operand_value, word_number}
use Rattle.abs_semantics.proofs.FormLemmas.{word_form}
use Rattle.abs_steps.specs.declared.accesses.Access.{Access}
use Rattle.abs_steps.specs.Accesses.{of_operand, factors_read, product_written}
use Rattle.abs_steps.specs.Effects.{puts, frees, done}
use Rattle.abs_steps.specs.Flags.{sets_of}
use Rattle.abs_steps.specs.Results.{is_zero, aligned_or, keeps_flags, quotient_of, known_quotient}
use Rattle.abs_steps.specs.Rows as steps
use Rattle.abs_steps.specs.Rows.{view_of, flag_effects}
use Rattle.abs_steps.specs.Views.{value_of}
use Rattle.step_soundness.specs.Accessed.{IsAccessed}
use Rattle.step_soundness.specs.Terms.{IsOperand}
use Rattle.step_soundness.proofs.ArithmeticLaws.{AreTaken}
use Rattle.step_soundness.proofs.EndLaws.{Leads, flags_freed, goes_flagged, accessed_left, accessed_right}
use Rattle.step_soundness.proofs.FlagLaws.{AreDrawn, flags_drawn}
use Rattle.step_soundness.proofs.GivenLaws.{Gives, gives_bind, gives_this, gives_none, gives_register}
use Rattle.step_soundness.proofs.MoveRows.{register_target, whole_is}
use Rattle.step_soundness.proofs.OperationLaws.{with_operands}
use Rattle.step_soundness.proofs.ReadLaws.{low_below}
use Rattle.step_soundness.proofs.RowLaws.{Row, Has, read_gives, value_canonical, arithmetic_has, arithmetic_form, arithmetic_flags, arithmetic_goes, limit_below, spelt_target, spelt_place}
use Rattle.step_soundness.proofs.SinceLaws.{Since, since_itself, since_puts}
use Rattle.step_soundness.proofs.WordLaws.{low_has, word_has}
use Rattle.step_soundness.proofs.WriteLaws.{AreQuiet, sets_since}

-- -- A register of which nothing is known

module _ (image : Image) (lane p : ℕ) (a : AbsState) (s : State) (d : Division) (b : AbsState) (t : State) (h : Since image lane p a s b t) where
  -- one register changes to any word, if it changes at all
  pub since_any : (n : ℕ) → n < 8 → (f : ℕ → ℕ) → ((k : ℕ) → (n == k) ≡ false → f k ≡ t.registers k) → f n < 4294967296 → Since image lane p a s (done d image p (puts Whole n Top) b) (record t { registers = f })
  since_any n few f others lt =
      subst (λ g. Since image lane p a s (done d image p (puts Whole n Top) b) (record t { registers = g })) (λ i k. same k i)
      (since_puts image lane p a s b t d h Whole n (f n) Top few lt lt tt tt)
    where
      same : (k : ℕ) → put t.registers n (with_part Whole (t.registers n) (f n)) k ≡ f k
      same k = by (n == k) refl
        where
          by : (c : Bool) → (n == k) ≡ c → cond c (with_part Whole (t.registers n) (f n)) (t.registers k) ≡ f k
          by true e = whole_is (f n) (t.registers n) lt ∙ ap f (eqb-true n k e)
          by false e = sym (others k e)

  word_part : (old k : ℕ) → old < 4294967296 → with_part Word old k < 4294967296
  unfolding with_part
  word_part old k lt = omega (arith, lt)

  low_part_below : (old k : ℕ) → old < 4294967296 → with_part Low old k < 4294967296
  unfolding with_part
  low_part_below old k lt = omega (arith, lt)

  high_part_below : (old k : ℕ) → old < 4294967296 → with_part High old k < 4294967296
  unfolding with_part
  high_part_below old k lt = omega (arith, lt)

  sized : (n : ℕ) → t.registers n < 4294967296
  sized n = h.known.whole.laid_out.sized.registers n

  -- the low half of one takes a number
  pub since_word : (n k : ℕ) → n < 8 → Since image lane p a s (done d image p (puts Whole n Top) b) (changed (sets Word n k) t)
  since_word n k few =
      since_any n few (put t.registers n (with_part Word (t.registers n) k)) (λ j e. put_other t.registers n (with_part Word (t.registers n) k) j e)
      (subst (λ x. x < 4294967296) (sym (put_here t.registers n (with_part Word (t.registers n) k) n (eq-eqb n n refl))) (word_part (t.registers n) k (sized n)))

  -- it stays
  pub since_kept : (n : ℕ) → n < 8 → Since image lane p a s (done d image p (puts Whole n Top) b) t
  since_kept n few = since_any n few t.registers (λ k e. refl) (sized n)

  -- both of its low bytes take numbers
  pub since_bytes : (n j k : ℕ) → n < 8 → Since image lane p a s (done d image p (puts Whole n Top) b) (changed (sets High n k) (changed (sets Low n j) t))
  since_bytes n j k few =
      let first : put t.registers n (with_part Low (t.registers n) j) n ≡ with_part Low (t.registers n) j = put_here t.registers n (with_part Low (t.registers n) j) n (eq-eqb n n refl) in
      since_any n few (put (put t.registers n (with_part Low (t.registers n) j)) n (with_part High (put t.registers n (with_part Low (t.registers n) j) n) k))
      (λ i e. put_other (put t.registers n (with_part Low (t.registers n) j)) n _ i e ∙ put_other t.registers n (with_part Low (t.registers n) j) i e)
      (subst (λ x. x < 4294967296) (sym (put_here (put t.registers n (with_part Low (t.registers n) j)) n (with_part High (put t.registers n (with_part Low (t.registers n) j) n) k) n (eq-eqb n n refl)))
      (high_part_below _ k (subst (λ x. x < 4294967296) (sym first) (low_part_below (t.registers n) j (sized n)))))

-- -- Quotients

known_top : (w : ℕ) → known w Top ≡ None
unfolding known
known_top w = refl

remainder_below : (n by : ℕ) → (by ≡ 0 → ⊥) → n % by < by
remainder_below n zero some = absurd (some refl)
remainder_below n (suc by) some = mod_below n (suc by) (omega arith)

unsigned_below : (n by : ℕ) (q : ℕ × ℕ) → by < 4294967296 → unsigned_division 32 n by ≡ Some q → (q.0 < 4294967296) × (q.1 < 4294967296)
unfolding unsigned_division
unsigned_below n by q lt e =
    cond_both (by == 0 || nat_le 4294967296 (n / by)) None (Some (n / by, n % by)) (λ o. o ≡ Some q → (q.0 < 4294967296) × (q.1 < 4294967296))
    (λ _ f. absurd (none-some q f))
    (λ no_ f.
    let some : by ≡ 0 → ⊥ = eqb-false by 0 (or_false_left (by == 0) _ no_) in
    let few : n / by < 4294967296 = leb-false 4294967296 (n / by) (or_false_right (by == 0) _ no_) in
    let rest : n % by < by = remainder_below n by some in
    let same : (n / by, n % by) ≡ q = same_Some (n / by, n % by) q f in
    (subst (λ (x : ℕ × ℕ). x.0 < 4294967296) same few, subst (λ (x : ℕ × ℕ). x.1 < 4294967296) same (omega (arith, rest, lt))))
    e

signed_below : (negative : Bool) (k : ℕ) → k < 4294967296 → signed_as 32 negative k < 4294967296
unfolding signed_as
signed_below negative k lt = cond_both negative ((4294967296 - k) % 4294967296) k (λ (x : ℕ). x < 4294967296) (λ _. omega arith) (λ _. lt)

sizes_below : (f g : Bool) (n by : ℕ) (q : ℕ × ℕ) → by ≤ 4294967296 → division_of_sizes 32 f g n by ≡ Some q → (q.0 < 4294967296) × (q.1 < 4294967296)
unfolding division_of_sizes quotient_fits
sizes_below f g n by q le e =
    cond_both (by == 0) None _ (λ o. o ≡ Some q → (q.0 < 4294967296) × (q.1 < 4294967296))
    (λ _ h. absurd (none-some q h))
    (λ none. cond_both (cond g (nat_le (n / by) 2147483648) (nat_lt (n / by) 2147483648)) (Some (signed_as 32 g (n / by), signed_as 32 f (n % by))) None (λ o. o ≡ Some q → (q.0 < 4294967296) × (q.1 < 4294967296))
    (λ fits h.
    let some : by ≡ 0 → ⊥ = eqb-false by 0 none in
    let rest : n % by < by = remainder_below n by some in
    let few : n / by < 4294967296 = few_of g (n / by) fits in
    let same : (signed_as 32 g (n / by), signed_as 32 f (n % by)) ≡ q = same_Some (signed_as 32 g (n / by), signed_as 32 f (n % by)) q h in
    (subst (λ (x : ℕ × ℕ). x.0 < 4294967296) same (signed_below g (n / by) few), subst (λ (x : ℕ × ℕ). x.1 < 4294967296) same (signed_below f (n % by) (omega (arith, rest, le)))))
    (λ _ h. absurd (none-some q h)))
    e
  where
    few_of : (g : Bool) (k : ℕ) → cond g (nat_le k 2147483648) (nat_lt k 2147483648) ≡ true → k < 4294967296
    few_of true k e = let le : k ≤ 2147483648 = leb-true k 2147483648 e in omega (arith, le)
    few_of false k e = let lt : k < 2147483648 = ltb-true k 2147483648 e in omega (arith, lt)

magnitude_below : (k : ℕ) → k < 4294967296 → magnitude 32 k ≤ 4294967296
unfolding magnitude
magnitude_below k lt = cond_both (sign 32 k) (4294967296 - k) k (λ (x : ℕ). x ≤ 4294967296) (λ _. omega arith) (λ _. omega (arith, lt))

-- quotient and remainder at 32 bits are words
division_below : (signed : Bool) (high low by : ℕ) (q : ℕ × ℕ) → by < 4294967296 → division 32 signed high low by ≡ Some q → (q.0 < 4294967296) × (q.1 < 4294967296)
unfolding division signed_division
division_below true high low by q lt e = sizes_below _ _ _ (magnitude 32 by) q (magnitude_below by lt) e
division_below false high low by q lt e = unsigned_below (dividend 32 high low) by q lt e

module _ (image : Image) (lane p : ℕ) (a : AbsState) (s : State) (d : Division) (known_ : IsKnown image lane a p s) (form : HasCanonical a) where
  abbrev val : Width → Operand → Values
  val width o = value_of (view_of a d p) width (Some o)

  here : Since image lane p a s a s
  here = since_itself image lane p a s known_ form

  -- -- Products

  halves_take : (width : Width) (low high byte : ℕ) → effects_take (rows.halves width low high) (AtByte byte) ≡ false
  halves_take B8 low high byte = refl
  halves_take W16 low high byte = refl
  halves_take D32 low high byte = refl

  halves_lead : (width : Width) (low high : ℕ) (v : Values) → CanonicalValues v → HasValue lane (world_of s) (low % 2 ^ bits width) v → Leads image lane p a s d [] (steps.product_effects width v) (rows.halves width low high)
  halves_lead D32 low high v fv has =
      record {
        since = λ fits. sets_since image lane p a s d known_ form D32 2 high Top (lit< tt) tt tt _ _ (sets_since image lane p a s d known_ form D32 0 low v (lit< tt) fv has a s here);
        written = λ byte fits f. absurd (false≢true f);
        filled = λ fits. tt;
      }
  halves_lead W16 low high v fv has =
      record {
        since = λ fits. since_word image lane p a s d _ _ (since_word image lane p a s d a s here 0 low (lit< tt)) 2 high (lit< tt);
        written = λ byte fits f. absurd (false≢true f);
        filled = λ fits. tt;
      }
  halves_lead B8 low high v fv has =
      record {
        since = λ fits. since_kept image lane p a s d _ _ (since_word image lane p a s d a s here 0 (low + 256 * high) (lit< tt)) 2 (lit< tt);
        written = λ byte fits f. absurd (false≢true f);
        filled = λ fits. tt;
      }

  eax_has : (width : Width) → Has image lane p a s d known_ form width (operand.Reg Eax) (low_part width (s.registers 0))
  unfolding value_of operand_value
  eax_has width = (
    record {
      has = low_has lane (world_of s) (a.registers 0) (form.registers 0) (s.registers 0) (known_.whole.laid_out.sized.registers 0) (known_.stands.registers 0 (lit< tt)) width;
      sure = inl (low_below width (s.registers 0) (known_.whole.laid_out.sized.registers 0));
    },
    refl,
  )

  two_taken : (o : Op) → takes_second o ≡ true → (width : Width) (x y : Operand) (m n : ℕ) → Has image lane p a s d known_ form width x m → Has image lane p a s d known_ form width y n
      → AreTaken lane (world_of s) width o (val width x) (val width y) m n
  two_taken o two width x y m n hm hn = record { first = hm.0; second_has = λ _. hn.0.has; second_sure = by hn.0.sure }
    where
      by : (n < 2 ^ bits width) ⊎ ((val width y ≡ Top) × (width ≡ D32)) → (n < 2 ^ bits width) ⊎ ((val width y ≡ Top) × (takes_second o ≡ true))
      by (inl lt) = inl lt
      by (inr e) = inr (e.0, two)

  -- what is special of one of the two products
  pub record IsProductOf (o : Op) (signed : Bool) : Type 0 where
    pub is : is_computed o ≡ true
    pub two : takes_second o ≡ true
    pub value_is : (width : Width) (m n : ℕ) → product_low (bits width) signed m n ≡ computed (bits width) o m n (s.flags 0)
    pub after : (width : Width) (m n : ℕ) (drawn : FlagsOut) (b now : Flags) → AreAfter (rows.settled drawn (product_flags (bits width) signed m n)) b now → AreAfter (computed_flags (bits width) o m n (s.flags 0)) b now
    pub keeps : (w : ℕ) (v : Values) → keeps_flags w o v ≡ false

  pub multiplied_goes : (o : Op) (signed : Bool) → IsProductOf o signed → (i : Instr) (dst src : Option Operand) (imm : Option ℕ) → HasOne (IsPlace i.width) dst src imm
      → Gives s (IsAccessed lane s (of_operand false a i.width dst))
      (Row image lane p a s d known_ form i (of_operand false a i.width dst) [] (steps.multiplied o (view_of a d p) (with_operands i dst src imm)))
      (rows.multiplied signed (with_operands i dst src imm))
  unfolding machine.whole_register
  multiplied_goes o signed own i (Some x) None None fits =
      let reads = of_operand false a i.width (Some x) in
      let R = IsAccessed lane s reads in
      let fx = spelt_place i.width x fits in
      let m = low_part i.width (s.registers 0) in
      let ax = val i.width (operand.Reg Eax) in
      let fax = value_canonical image lane p a s d known_ form i.width (operand.Reg Eax) tt in
      let fb = value_canonical image lane p a s d known_ form i.width x fx in
      gives_bind s R (AreDrawn rows.product_undefined) _ (machine.any_flags rows.product_undefined) _ (flags_drawn s R rows.product_undefined) (λ drawn hd.
      gives_register s R _ 0 _
      (gives_bind s R (Has image lane p a s d known_ form i.width x) _ (machine.value_of i.width (Some x)) _ (read_gives image lane p a s d known_ form R i.width x fx (λ byte h. h)) (λ n hn.
      let taken = two_taken o own.two i.width (operand.Reg Eax) x m n (eax_has i.width) hn in
      let flags = rows.settled drawn (product_flags (bits i.width) signed m n) in
      let after = own.after i.width m n drawn in
      let v = value (bits i.width) o ax (val i.width x) (sets_of a.flags) in
      gives_this s R _ (going (rows.halves i.width (product_low (bits i.width) signed m n) (product_high (bits i.width) signed m n) ++ machine.flag_effects flags) (next_place i))
      (goes_flagged image lane p a s d known_ form (next_place i) reads [] (steps.product_effects i.width v) (flag_effects (view_of a d p) (bits i.width) o ax (val i.width x))
      (rows.halves i.width (product_low (bits i.width) signed m n) (product_high (bits i.width) signed m n)) flags
      (halves_take i.width (product_low (bits i.width) signed m n) (product_high (bits i.width) signed m n))
      (halves_lead i.width (product_low (bits i.width) signed m n) (product_high (bits i.width) signed m n) v (arithmetic_form image lane p a s d known_ form i.width o own.is ax (val i.width x) fax fb m n taken flags after)
      (subst (λ k. HasValue lane (world_of s) (k % 2 ^ bits i.width) v) (sym (own.value_is i.width m n)) (arithmetic_has image lane p a s d known_ form i.width o own.is ax (val i.width x) fax fb m n taken flags after)))
      (arithmetic_flags image lane p a s d known_ form i.width o own.is ax (val i.width x) fax fb m n taken flags after (λ e. absurd (false≢true (sym (own.keeps (bits i.width) (val i.width x)) ∙ e))))))))
  multiplied_goes o signed own i None src imm fits = absurd fits
  multiplied_goes o signed own i (Some x) (Some y) imm fits = absurd fits
  multiplied_goes o signed own i (Some x) None (Some n) fits = absurd fits

  -- into a register
  into_goes : IsProductOf op.Imul true → (i : Instr) (x first second : Operand) (imm : Option ℕ) → IsTarget i.width x → IsOperand first → IsOperand second → AreQuiet a p (of_operand true a i.width (Some x))
      → (reads : List Access) → ((byte : ℕ) → IsAccessed lane s (of_operand false a i.width (Some first)) byte → IsAccessed lane s reads byte)
      → ((byte : ℕ) → IsAccessed lane s (of_operand false a i.width (Some second)) byte → IsAccessed lane s reads byte) → (src : Option Operand)
      → Gives s (IsAccessed lane s reads)
      (Row image lane p a s d known_ form i reads (of_operand true a i.width (Some x)) (steps.multiplied_into (view_of a d p) (with_operands i (Some x) src imm) (Some first) (Some second)))
      (rows.multiplied_into (with_operands i (Some x) src imm) (Some first) (Some second))
  unfolding is_zero aligned_or
  into_goes own i x first second imm target f1 f2 quiet reads r1 r2 src =
      let R = IsAccessed lane s reads in
      let c1 = value_canonical image lane p a s d known_ form i.width first f1 in
      let c2 = value_canonical image lane p a s d known_ form i.width second f2 in
      gives_bind s R (AreDrawn rows.product_undefined) _ (machine.any_flags rows.product_undefined) _ (flags_drawn s R rows.product_undefined) (λ drawn hd.
      gives_bind s R (Has image lane p a s d known_ form i.width first) _ (machine.value_of i.width (Some first)) _ (read_gives image lane p a s d known_ form R i.width first f1 r1) (λ m hm.
      gives_bind s R (Has image lane p a s d known_ form i.width second) _ (machine.value_of i.width (Some second)) _ (read_gives image lane p a s d known_ form R i.width second f2 r2) (λ n hn.
      arithmetic_goes image lane p a s d known_ form i R reads x target quiet op.Imul own.is (val i.width first) (val i.width second) c1 c2 m n (two_taken op.Imul own.two i.width first second m n hm hn)
      (rows.settled drawn (product_flags (bits i.width) true m n)) (own.after i.width m n drawn) (λ e. absurd (false≢true (sym (own.keeps (bits i.width) (val i.width second)) ∙ e)))
      (product_low (bits i.width) true m n) (own.value_is i.width m n) (value (bits i.width) op.Imul (val i.width first) (val i.width second) (sets_of a.flags)) (λ f. f) (λ h. h))))

  pub imul_goes : IsProductOf op.Imul true → (i : Instr) (dst src : Option Operand) (imm : Option ℕ) → IsProduct i.width dst src imm → AreQuiet a p (product_written a (with_operands i dst src imm) src)
      → Gives s (IsAccessed lane s (factors_read a (with_operands i dst src imm) src imm))
      (Row image lane p a s d known_ form i (factors_read a (with_operands i dst src imm) src imm) (product_written a (with_operands i dst src imm) src) (steps.imul (view_of a d p) (with_operands i dst src imm) src imm))
      (rows.imul (with_operands i dst src imm) src imm)
  imul_goes own i (Some x) None None fits quiet = multiplied_goes op.Imul true own i (Some x) None None fits
  imul_goes own i (Some x) (Some y) None fits quiet =
      let target = register_target i.width x fits.1 in
      into_goes own i x x y None target (spelt_target i.width x target) (spelt_place i.width y fits.2) quiet (of_operand false a i.width (Some x) ++ of_operand false a i.width (Some y))
      (λ byte h. accessed_left lane s (of_operand false a i.width (Some x)) (of_operand false a i.width (Some y)) byte h)
      (λ byte h. accessed_right lane s (of_operand false a i.width (Some x)) (of_operand false a i.width (Some y)) byte h) (Some y)
  imul_goes own i (Some x) (Some y) (Some n) fits quiet =
      into_goes own i x y (operand.Imm n) (Some n) (register_target i.width x fits.1) (spelt_place i.width y fits.2) (limit_below i.width n fits.3) quiet (of_operand false a i.width (Some y))
      (λ byte h. h) (λ byte h. absurd h) (Some y)
  imul_goes own i None src imm fits quiet = absurd fits
  imul_goes own i (Some x) None (Some n) fits quiet = absurd fits

  -- -- Quotients

  quotient_take : (width : Width) (q r byte : ℕ) → effects_take (rows.quotient_effects width q r) (AtByte byte) ≡ false
  quotient_take B8 q r byte = refl
  quotient_take W16 q r byte = refl
  quotient_take D32 q r byte = refl

  abbrev AreHalves : Width → ℕ × ℕ → Type 0
  AreHalves B8 parts = Unit {0}
  AreHalves W16 parts = Unit {0}
  AreHalves D32 parts = (parts.0 ≡ s.registers 2) × (parts.1 ≡ s.registers 0)

  halves_give : (R : ℕ → Type 0) (width : Width) → Gives s R (AreHalves width) (rows.dividend_halves width)
  unfolding rows.dividend_halves machine.whole_register
  halves_give R B8 = gives_register s R _ 0 _ (gives_this s R _ (s.registers 0 / 256 % 256, s.registers 0 % 256) tt)
  halves_give R W16 = gives_register s R _ 0 _ (gives_register s R _ 2 _ (gives_this s R _ (s.registers 2 % 65536, s.registers 0 % 65536) tt))
  halves_give R D32 = gives_register s R _ 0 _ (gives_register s R _ 2 _ (gives_this s R _ (s.registers 2, s.registers 0) (refl, refl)))

  quotient_gives : (R : ℕ → Type 0) (o : Option (ℕ × ℕ)) → Gives s R (λ q. o ≡ Some q) (rows.quotient_or_fault o)
  unfolding rows.quotient_or_fault
  quotient_gives R None = gives_none s R _
  quotient_gives R (Some q) = gives_this s R _ q refl

  word_lead : (q r : ℕ) → q < 4294967296 → r < 4294967296 → Leads image lane p a s d [] (puts Whole 0 (word_number q) ∷ puts Whole 2 (word_number r) ∷ []) (sets Whole 0 q ∷ sets Whole 2 r ∷ [])
  word_lead q r lq lr =
      let cut_q : q ≡ q % 4294967296 = omega (arith, lq) in
      let cut_r : r ≡ r % 4294967296 = omega (arith, lr) in
      record {
        since = λ fits.
            sets_since image lane p a s d known_ form D32 2 r (word_number r) (lit< tt) (word_form r lr) (subst (λ k. HasValue lane (world_of s) k (word_number r)) cut_r (word_has lane (world_of s) r lr)) _ _
            (sets_since image lane p a s d known_ form D32 0 q (word_number q) (lit< tt) (word_form q lq) (subst (λ k. HasValue lane (world_of s) k (word_number q)) cut_q (word_has lane (world_of s) q lq)) a s here);
        written = λ byte fits f. absurd (false≢true f);
        filled = λ fits. tt;
      }

  any_lead : (q r : ℕ) → Leads image lane p a s d [] (puts Whole 0 Top ∷ puts Whole 2 Top ∷ []) (sets Whole 0 q ∷ sets Whole 2 r ∷ [])
  any_lead q r =
      record {
        since = λ fits. sets_since image lane p a s d known_ form D32 2 r Top (lit< tt) tt tt _ _ (sets_since image lane p a s d known_ form D32 0 q Top (lit< tt) tt tt a s here);
        written = λ byte fits f. absurd (false≢true f);
        filled = λ fits. tt;
      }

  quotient_lead : (signed : Bool) (width : Width) (x : Operand) (n : ℕ) → Has image lane p a s d known_ form width x n → (parts q : ℕ × ℕ) → AreHalves width parts → division (bits width) signed parts.0 parts.1 n ≡ Some q
      → Leads image lane p a s d [] (steps.quotient_effects width (known_quotient width signed (a.registers 2) (a.registers 0) (val width x))) (rows.quotient_effects width q.0 q.1)
  quotient_lead signed B8 x n hn parts q hp e =
      record { since = λ fits. since_bytes image lane p a s d a s here 0 q.0 q.1 (lit< tt); written = λ byte fits f. absurd (false≢true f); filled = λ fits. tt }
  quotient_lead signed W16 x n hn parts q hp e =
      record {
        since = λ fits. since_word image lane p a s d _ _ (since_word image lane p a s d a s here 0 q.0 (lit< tt)) 2 q.1 (lit< tt);
        written = λ byte fits f. absurd (false≢true f);
        filled = λ fits. tt;
      }
  quotient_lead signed D32 x n hn parts q hp e = by (known 32 (a.registers 2)) (known 32 (a.registers 0)) (known 32 (val D32 x)) refl refl refl
    where
      word_of : (r k : ℕ) → r < 8 → known 32 (a.registers r) ≡ Some k → k ≡ s.registers r
      word_of r k few f = known_is lane (world_of s) (s.registers r) (known_.whole.laid_out.sized.registers r) 32 (a.registers r) k f (known_.stands.registers r few)

      divisor_is : (k : ℕ) → known 32 (val D32 x) ≡ Some k → (k ≡ n) × (n < 4294967296)
      divisor_is k f = of_sure hn.0.sure
        where
          of_sure : (n < 4294967296) ⊎ ((val D32 x ≡ Top) × (D32 ≡ D32)) → (k ≡ n) × (n < 4294967296)
          of_sure (inl lt) = (known_is lane (world_of s) n lt 32 (val D32 x) k f hn.0.has, lt)
          of_sure (inr top) = absurd (none-some k (sym (ap (known 32) top.0 ∙ known_top 32) ∙ f))

      by : (h l b : Option ℕ) → known 32 (a.registers 2) ≡ h → known 32 (a.registers 0) ≡ l → known 32 (val D32 x) ≡ b
          → Leads image lane p a s d [] (steps.quotient_effects D32 (quotient_of signed h l b)) (sets Whole 0 q.0 ∷ sets Whole 2 q.1 ∷ [])
      by None l b f g k = any_lead q.0 q.1
      by (Some h) None b f g k = any_lead q.0 q.1
      by (Some h) (Some l) None f g k = any_lead q.0 q.1
      by (Some h) (Some l) (Some b) f g k =
          let divisor = divisor_is b k in
          let same : division 32 signed h l b ≡ Some q =
          ap (λ z. division 32 signed z l b) (word_of 2 h (lit< tt) f ∙ sym hp.0) ∙ ap (λ z. division 32 signed parts.0 z b) (word_of 0 l (lit< tt) g ∙ sym hp.1) ∙ ap (division 32 signed parts.0 parts.1) divisor.0 ∙ e in
          let below = division_below signed parts.0 parts.1 n q divisor.1 e in
          subst (λ o. Leads image lane p a s d [] (steps.quotient_effects D32 o) (sets Whole 0 q.0 ∷ sets Whole 2 q.1 ∷ [])) (sym same) (word_lead q.0 q.1 below.0 below.1)

  pub divided_goes : (signed : Bool) (i : Instr) (dst src : Option Operand) (imm : Option ℕ) → HasOne (IsPlace i.width) dst src imm
      → Gives s (IsAccessed lane s (of_operand false a i.width dst))
      (Row image lane p a s d known_ form i (of_operand false a i.width dst) [] (steps.divided signed (view_of a d p) (with_operands i dst src imm)))
      (rows.divided signed (with_operands i dst src imm))
  divided_goes signed i (Some x) None None fits =
      let reads = of_operand false a i.width (Some x) in
      let R = IsAccessed lane s reads in
      let fx = spelt_place i.width x fits in
      gives_bind s R (AreDrawn division_flags) _ (machine.any_flags division_flags) _ (flags_drawn s R division_flags) (λ drawn hd.
      gives_bind s R (Has image lane p a s d known_ form i.width x) _ (machine.value_of i.width (Some x)) _ (read_gives image lane p a s d known_ form R i.width x fx (λ byte h. h)) (λ n hn.
      gives_bind s R (AreHalves i.width) _ (rows.dividend_halves i.width) _ (halves_give R i.width) (λ parts hp.
      gives_bind s R (λ q. division (bits i.width) signed parts.0 parts.1 n ≡ Some q) _ (rows.quotient_or_fault (division (bits i.width) signed parts.0 parts.1 n)) _ (quotient_gives R (division (bits i.width) signed parts.0 parts.1 n)) (λ q e.
      gives_this s R _ (going (rows.quotient_effects i.width q.0 q.1 ++ machine.flag_effects drawn) (next_place i))
      (goes_flagged image lane p a s d known_ form (next_place i) reads [] (steps.quotient_effects i.width (known_quotient i.width signed (a.registers 2) (a.registers 0) (val i.width x))) (frees ∷ [])
      (rows.quotient_effects i.width q.0 q.1) drawn (quotient_take i.width q.0 q.1) (quotient_lead signed i.width x n hn parts q hp e) (flags_freed image lane p a s d drawn))))))
  divided_goes signed i None src imm fits = absurd fits
  divided_goes signed i (Some x) (Some y) imm fits = absurd fits
  divided_goes signed i (Some x) None (Some n) fits = absurd fits

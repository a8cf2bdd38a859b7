-- Operations of two operands, of one, and by a count, whose result is stored.
use Rattle.std.proofs.Common.{◌≡◌, ◌⊎◌, inl, inr, ℕ, ◌%◌, ◌^◌, ◌<◌, ◌==◌, ◌&&◌, true, false, cond, [], ◌∷◌, ◌++◌, Option, Some, None, refl, sym, ◌∙◌, ap, subst, arith, lit<, pos}
use Rattle.std.specs.Int.Bits.{xor_self}
use Rattle.std.specs.Prelude.{bit_and, bit_xor}
use Rattle.std.specs.Prelude.{ℤ}
use Rattle.std.proofs.lemmas.Bool.{false≢true, cond_both, eqb-true}
use Rattle.std.proofs.lemmas.Option.{none-some}
use Rattle.strided.specs.Operations.{only}
use Rattle.std.proofs.lemmas.Nat.{and_comm}
use Rattle.image_map.specs.declared.image.Image.{Image}
use Rattle.ia32_types.specs.declared.Op.{Op}
use Rattle.ia32_types.specs.declared.Op.TheVariants as op
use Rattle.ia32_types.specs.declared.Instr.{Instr}
use Rattle.ia32_types.specs.declared.Operand.{Operand}
use Rattle.ia32_types.specs.declared.Operand.TheVariants as operand
use Rattle.ia32_types.specs.declared.Width.{Width}
use Rattle.ia32_types.specs.declared.Width.TheVariants.{B8, W16, D32}
use Rattle.ia32_types.specs.Numbers.{reg_number}
use Rattle.ia32_types.specs.Operands.{IsTarget, IsValue, IsCount, HasOne, HasTwo, HasOneAddress}
use Rattle.ia32_semantics.specs.declared.flags.Flags.{Flags}
use Rattle.ia32_semantics.specs.declared.flags.FlagsOut.{FlagsOut}
use Rattle.ia32_semantics.specs.Alu.{alu_value, alu_flags, kept_flags, difference}
use Rattle.ia32_semantics.specs.Shift.{shift_value, shift_flags, shift_flags_by, masked}
use Rattle.ia32_semantics.specs.Operands as machine
use Rattle.ia32_semantics.specs.Operands.{bits, low_part}
use Rattle.ia32_semantics.specs.Reading.{gives}
use Rattle.ia32_semantics.specs.Rows as rows
use Rattle.ia32_semantics.specs.Rows.{next_place, goes_on}
use Rattle.ia32_semantics.specs.State.{State}
use Rattle.alocs.specs.Cells.{Division}
use Rattle.vset.specs.Values.{Values, Top, Parts, CanonicalValues}
use Rattle.vset.specs.Members.{HasValue}
use Rattle.abs_alu.specs.Computed.{is_computed, computed, computed_flags}
use Rattle.abs_alu.specs.Flags.{is_none}
use Rattle.abs_alu.specs.Operands.{takes_second, known}
use Rattle.abs_alu.specs.Results.{value}
use Rattle.abs_alu.specs.Runs.{AreAfter}
use Rattle.abs_alu.specs.Words.{number}
use Rattle.abs_alu.proofs.WordLemmas.{known_is}
use Rattle.abs_semantics.specs.States.{AbsState, HasCanonical}
use Rattle.abs_semantics.specs.StandsFor.{world_of}
use Rattle.abs_semantics.specs.Ownership.{IsKnown}
use Rattle.abs_steps.specs.Accesses.{of_operand}
use Rattle.abs_steps.specs.Flags.{sets_of}
use Rattle.abs_steps.specs.Results.{is_own_inverse, is_dword, are_one_register, is_zero, align_of, lowered, lowered_by, first_of, aligned_or, keeps_flags}
use Rattle.abs_steps.specs.Rows as steps
use Rattle.abs_steps.specs.Rows.{view_of}
use Rattle.abs_steps.specs.Views.{value_of}
use Rattle.step_soundness.specs.Accessed.{IsAccessed}
use Rattle.step_soundness.specs.Terms.{IsOperand}
use Rattle.step_soundness.proofs.AlignLaws.{lowered_by_has}
use Rattle.step_soundness.proofs.ArithmeticLaws.{AreTaken}
use Rattle.step_soundness.proofs.EndLaws.{accessed_left, accessed_right}
use Rattle.step_soundness.proofs.FlagLaws.{AreDrawn, are_drawn_after, flags_drawn}
use Rattle.step_soundness.proofs.GivenLaws.{Gives, gives_bind, gives_this, gives_flag}
use Rattle.step_soundness.proofs.ReadLaws.{IsRead, IsSelf}
use Rattle.step_soundness.proofs.RowLaws.{Row, Has, read_gives, value_canonical, arithmetic_goes, spelt_target, spelt_value}
use Rattle.step_soundness.proofs.ValueForms.{small_form}
use Rattle.step_soundness.proofs.WriteLaws.{AreQuiet}
use Rattle.abs_alu.proofs.WordLemmas.{number_has}

-- the same instruction with other operands
abbrev pub with_operands : Instr → Option Operand → Option Operand → Option ℕ → Instr
with_operands i dst src imm = record i { dst = dst; src = src; imm = imm }

zero_has : (image : Image) (lane : ℕ) (s : State) → HasValue lane (world_of s) 0 (number (pos 0))
zero_has image lane s = number_has lane (world_of s) 0 (lit< tt)

module _ (image : Image) (lane p : ℕ) (a : AbsState) (s : State) (d : Division) (known_ : IsKnown image lane a p s) (form : HasCanonical a) where
  abbrev val : Width → Operand → Values
  val width o = value_of (view_of a d p) width (Some o)

  -- the value that a row stores
  abbrev stored_value : Op → Width → Operand → Operand → Width → Values
  stored_value o width x y second =
      cond (is_zero o width (Some x) (Some y)) (number (pos 0)) (aligned_or a.aligns o width (val width x) (val second y) (value (bits width) o (val width x) (val second y) (sets_of a.flags)))

  -- what is special of an operation when two numbers have been read: r is the result, and the flags are these
  pub record IsOwn (o : Op) (width : Width) (x y : Operand) (m n r : ℕ) (flags : FlagsOut) : Type 0 where
    pub value_is : r ≡ computed (bits width) o m n (s.flags 0)
    pub after : (b now : Flags) → AreAfter flags b now → AreAfter (computed_flags (bits width) o m n (s.flags 0)) b now
    pub kept : keeps_flags (bits width) o (val width y) ≡ true → flags ≡ kept_flags
    pub stored_form : CanonicalValues (value (bits width) o (val width x) (val width y) (sets_of a.flags)) → CanonicalValues (stored_value o width x y width)
    pub stored_has : HasValue lane (world_of s) (r % 2 ^ bits width) (value (bits width) o (val width x) (val width y) (sets_of a.flags))
        → HasValue lane (world_of s) (r % 2 ^ bits width) (stored_value o width x y width)

  -- -- Two operands

  module _ (o : Op) (is : is_computed o ≡ true) (two : takes_second o ≡ true) (i : Instr) where
    both_taken : (x y : Operand) (m n : ℕ) → Has image lane p a s d known_ form i.width x m → Has image lane p a s d known_ form i.width y n → AreTaken lane (world_of s) i.width o (val i.width x) (val i.width y) m n
    both_taken x y m n hm hn = record { first = hm.0; second_has = λ _. hn.0.has; second_sure = by hn.0.sure }
      where
        by : (n < 2 ^ bits i.width) ⊎ ((val i.width y ≡ Top) × (i.width ≡ D32)) → (n < 2 ^ bits i.width) ⊎ ((val i.width y ≡ Top) × (takes_second o ≡ true))
        by (inl lt) = inl lt
        by (inr e) = inr (e.0, two)

    pub computed_goes : (x y : Operand) → IsTarget i.width x → IsValue i.width y → AreQuiet a p (of_operand true a i.width (Some x))
        → ((m n : ℕ) → Has image lane p a s d known_ form i.width x m → Has image lane p a s d known_ form i.width y n
        → Gives s (IsAccessed lane s (of_operand false a i.width (Some x) ++ of_operand false a i.width (Some y)))
        (λ c. IsOwn o i.width x y m n (alu_value (bits i.width) o m n c) (alu_flags (bits i.width) o m n c)) (rows.carry_in o))
        → Gives s (IsAccessed lane s (of_operand false a i.width (Some x) ++ of_operand false a i.width (Some y)))
        (Row image lane p a s d known_ form i (of_operand false a i.width (Some x) ++ of_operand false a i.width (Some y)) (of_operand true a i.width (Some x))
        (steps.computed o (view_of a d p) (with_operands i (Some x) (Some y) None)))
        (rows.computed o (with_operands i (Some x) (Some y) None))
    computed_goes x y target spelt quiet carry =
        let reads = of_operand false a i.width (Some x) ++ of_operand false a i.width (Some y) in
        let R = IsAccessed lane s reads in
        let fx = spelt_target i.width x target in
        let fy = spelt_value i.width y spelt in
        gives_bind s R (Has image lane p a s d known_ form i.width x) _ (machine.value_of i.width (Some x)) _
        (read_gives image lane p a s d known_ form R i.width x fx (λ byte h. accessed_left lane s (of_operand false a i.width (Some x)) (of_operand false a i.width (Some y)) byte h)) (λ m hm.
        gives_bind s R (Has image lane p a s d known_ form i.width y) _ (machine.value_of i.width (Some y)) _
        (read_gives image lane p a s d known_ form R i.width y fy (λ byte h. accessed_right lane s (of_operand false a i.width (Some x)) (of_operand false a i.width (Some y)) byte h)) (λ n hn.
        gives_bind s R (λ c. IsOwn o i.width x y m n (alu_value (bits i.width) o m n c) (alu_flags (bits i.width) o m n c)) _ (rows.carry_in o) _ (carry m n hm hn) (λ c own.
        arithmetic_goes image lane p a s d known_ form i R reads x target quiet o is (val i.width x) (val i.width y)
        (value_canonical image lane p a s d known_ form i.width x fx) (value_canonical image lane p a s d known_ form i.width y fy) m n (both_taken x y m n hm hn)
        (alu_flags (bits i.width) o m n c) own.after own.kept (alu_value (bits i.width) o m n c) own.value_is (stored_value o i.width x y i.width) own.stored_form own.stored_has)))

    pub pair_goes : ((x y : Operand) → IsOperand x → IsOperand y → (m n : ℕ) → Has image lane p a s d known_ form i.width x m → Has image lane p a s d known_ form i.width y n
        → Gives s (IsAccessed lane s (of_operand false a i.width (Some x) ++ of_operand false a i.width (Some y)))
        (λ c. IsOwn o i.width x y m n (alu_value (bits i.width) o m n c) (alu_flags (bits i.width) o m n c)) (rows.carry_in o))
        → (dst src : Option Operand) (imm : Option ℕ) → HasTwo (λ x y. IsTarget i.width x × IsValue i.width y × HasOneAddress x y) dst src imm → AreQuiet a p (of_operand true a i.width dst)
        → Gives s (IsAccessed lane s (of_operand false a i.width dst ++ of_operand false a i.width src))
        (Row image lane p a s d known_ form i (of_operand false a i.width dst ++ of_operand false a i.width src) (of_operand true a i.width dst)
        (steps.computed o (view_of a d p) (with_operands i dst src imm)))
        (rows.computed o (with_operands i dst src imm))
    pair_goes carry (Some x) (Some y) None fits quiet = computed_goes x y fits.0 fits.1 quiet (carry x y (spelt_target i.width x fits.0) (spelt_value i.width y fits.1))
    pair_goes carry None src imm fits quiet = absurd fits
    pair_goes carry (Some x) None imm fits quiet = absurd fits
    pair_goes carry (Some x) (Some y) (Some n) fits quiet = absurd fits

  -- -- What is special of each operation

  module _ (R : ℕ → Type 0) (width : Width) (x y : Operand) (m n : ℕ) (hm : Has image lane p a s d known_ form width x m) (hn : Has image lane p a s d known_ form width y n) where
    abbrev Owns : Op → Type 0
    Owns o = Gives s R (λ c. IsOwn o width x y m n (alu_value (bits width) o m n c) (alu_flags (bits width) o m n c)) (rows.carry_in o)

    pub own_add : Owns op.Add
    unfolding rows.carry_in computed computed_flags alu_value alu_flags keeps_flags is_zero aligned_or
    own_add = gives_this s R _ false (record { value_is = refl; after = λ b now h. h; kept = λ e. absurd (false≢true e); stored_form = λ f. f; stored_has = λ h. h })

    pub own_or : Owns op.Or
    unfolding rows.carry_in computed computed_flags alu_value alu_flags keeps_flags is_zero aligned_or
    own_or = gives_this s R _ false (record { value_is = refl; after = λ b now h. h; kept = λ e. absurd (false≢true e); stored_form = λ f. f; stored_has = λ h. h })

    pub own_adc : Owns op.Adc
    unfolding rows.carry_in machine.flag_value computed computed_flags alu_value alu_flags keeps_flags is_zero aligned_or
    own_adc = gives_flag s R _ 0 (λ v. gives v) (gives_this s R _ (s.flags 0) (record { value_is = refl; after = λ b now h. h; kept = λ e. absurd (false≢true e); stored_form = λ f. f; stored_has = λ h. h }))

    pub own_sbb : Owns op.Sbb
    unfolding rows.carry_in machine.flag_value computed computed_flags alu_value alu_flags keeps_flags is_zero aligned_or
    own_sbb = gives_flag s R _ 0 (λ v. gives v) (gives_this s R _ (s.flags 0) (record { value_is = refl; after = λ b now h. h; kept = λ e. absurd (false≢true e); stored_form = λ f. f; stored_has = λ h. h }))

    -- a register with itself
    one_number : (x y : Operand) → are_one_register (Some x) (Some y) ≡ true → IsSelf s D32 x m → IsSelf s D32 y n → m ≡ n
    one_number (operand.Reg r) (operand.Reg q) e f g = f ∙ ap s.registers (eqb-true (reg_number r) (reg_number q) e) ∙ sym g
    one_number (operand.Reg r) (operand.High q) e f g = absurd (false≢true e)
    one_number (operand.Reg r) (operand.Imm k) e f g = absurd (false≢true e)
    one_number (operand.Reg r) (operand.Mem q) e f g = absurd (false≢true e)
    one_number (operand.High r) y e f g = absurd (false≢true e)
    one_number (operand.Imm r) y e f g = absurd (false≢true e)
    one_number (operand.Mem r) y e f g = absurd (false≢true e)

    zero_or : (o : Op) (r : ℕ) (w : Values) → (is_zero o width (Some x) (Some y) ≡ true → r % 2 ^ bits width ≡ 0) → HasValue lane (world_of s) (r % 2 ^ bits width) w
        → HasValue lane (world_of s) (r % 2 ^ bits width) (cond (is_zero o width (Some x) (Some y)) (number (pos 0)) w)
    zero_or o r w zero h =
        cond_both (is_zero o width (Some x) (Some y)) (number (pos 0)) w (HasValue lane (world_of s) (r % 2 ^ bits width))
        (λ e. subst (λ k. HasValue lane (world_of s) k (number (pos 0))) (sym (zero e)) (zero_has image lane s)) (λ _. h)

    zero_form : (o : Op) (w : Values) → CanonicalValues w → CanonicalValues (cond (is_zero o width (Some x) (Some y)) (number (pos 0)) w)
    zero_form o w f = cond_both (is_zero o width (Some x) (Some y)) (number (pos 0)) w CanonicalValues (λ _. small_form 0 (lit< tt)) (λ _. f)

  -- exclusive or, and the difference
  module _ (R : ℕ → Type 0) (x y : Operand) (m n : ℕ) where
    xor_zero : (width : Width) → Has image lane p a s d known_ form width x m → Has image lane p a s d known_ form width y n → is_zero op.Xor width (Some x) (Some y) ≡ true → bit_xor m n % 2 ^ bits width ≡ 0
    unfolding is_zero
    xor_zero B8 hm hn e = absurd (false≢true e)
    xor_zero W16 hm hn e = absurd (false≢true e)
    xor_zero D32 hm hn e =
        let same : m ≡ n = one_number R D32 x y m n hm hn x y e hm.1 hn.1 in
        ap (λ k. bit_xor k n % 4294967296) same ∙ ap (λ k. k % 4294967296) (xor_self n)

    pub own_xor : (width : Width) (hm : Has image lane p a s d known_ form width x m) (hn : Has image lane p a s d known_ form width y n) → Owns R width x y m n hm hn op.Xor
    unfolding rows.carry_in computed computed_flags alu_value alu_flags keeps_flags aligned_or
    own_xor width hm hn =
        gives_this s R _ false
        (record {
          value_is = refl;
          after = λ b now h. h;
          kept = λ e. absurd (false≢true e);
          stored_form = λ f. zero_form R width x y m n hm hn op.Xor _ f;
          stored_has = λ h. zero_or R width x y m n hm hn op.Xor (bit_xor m n) _ (xor_zero width hm hn) h;
        })

    sub_zero : (width : Width) → Has image lane p a s d known_ form width x m → Has image lane p a s d known_ form width y n → is_zero op.Sub width (Some x) (Some y) ≡ true → difference (bits width) m n false % 2 ^ bits width ≡ 0
    unfolding is_zero difference
    sub_zero B8 hm hn e = absurd (false≢true e)
    sub_zero W16 hm hn e = absurd (false≢true e)
    sub_zero D32 hm hn e = let same : m ≡ n = one_number R D32 x y m n hm hn x y e hm.1 hn.1 in omega (arith, same)

    pub own_sub : (width : Width) (hm : Has image lane p a s d known_ form width x m) (hn : Has image lane p a s d known_ form width y n) → Owns R width x y m n hm hn op.Sub
    unfolding rows.carry_in computed computed_flags alu_value alu_flags keeps_flags aligned_or
    own_sub width hm hn =
        gives_this s R _ false
        (record {
          value_is = refl;
          after = λ b now h. h;
          kept = λ e. absurd (false≢true e);
          stored_form = λ f. zero_form R width x y m n hm hn op.Sub _ f;
          stored_has = λ h. zero_or R width x y m n hm hn op.Sub (difference (bits width) m n false) _ (sub_zero width hm hn) h;
        })

    -- `and`, also of a lone part of an activation whose base is known in part
    abbrev Low : ℕ → ℕ → Option Values → Type 0
    Low j k None = Unit {0}
    Low j k (Some w) = CanonicalValues w × HasValue lane (world_of s) (bit_and j k % 4294967296) w

    no_mask : (j k : ℕ) (v : Values) → Low j k (lowered_by a.aligns v Top)
    no_mask j k Top = tt
    no_mask j k (Parts []) = tt
    no_mask j k (Parts (x ∷ [])) = by (align_of a.aligns x.region) (only x.si)
      where
        by : (b : Option ℕ) (o : Option ℤ) → Low j k (lowered b o None (Parts (x ∷ [])))
        by None o = tt
        by (Some b) None = tt
        by (Some b) (Some o) = tt
    no_mask j k (Parts (x ∷ y ∷ rest)) = tt

    low_has : (v w : Values) (j k : ℕ) → CanonicalValues v → IsRead lane (world_of s) D32 v j → IsRead lane (world_of s) D32 w k → Low j k (lowered_by a.aligns v w)
    low_has v w j k fv hv hw = by hv.sure hw.sure
      where
        by : (j < 4294967296) ⊎ ((v ≡ Top) × (D32 ≡ D32)) → (k < 4294967296) ⊎ ((w ≡ Top) × (D32 ≡ D32)) → Low j k (lowered_by a.aligns v w)
        by (inl lj) (inl lk) = lowered_by_has lane a s known_.stands j k lj lk v w fv hv.has hw.has
        by (inr e) y = subst (λ u. Low j k (lowered_by a.aligns u w)) (sym e.0) tt
        by (inl lj) (inr e) = subst (λ u. Low j k (lowered_by a.aligns v u)) (sym e.0) (no_mask j k v)

    low_round : (j k : ℕ) (o : Option Values) → Low j k o → Low k j o
    low_round j k None h = tt
    low_round j k (Some w) h = (h.0, subst (λ r. HasValue lane (world_of s) (r % 4294967296) w) (and_comm j k) h.1)

    first_form : (v w : Option Values) (other : Values) → Low m n v → Low m n w → CanonicalValues other → CanonicalValues (first_of v w other)
    first_form (Some v) w other first second f = first.0
    first_form None (Some w) other first second f = second.0
    first_form None None other first second f = f

    first_has : (v w : Option Values) (other : Values) → Low m n v → Low m n w → HasValue lane (world_of s) (bit_and m n % 4294967296) other → HasValue lane (world_of s) (bit_and m n % 4294967296) (first_of v w other)
    first_has (Some v) w other first second h = first.1
    first_has None (Some w) other first second h = second.1
    first_has None None other first second h = h

    pub own_and : IsOperand x → IsOperand y → (width : Width) (hm : Has image lane p a s d known_ form width x m) (hn : Has image lane p a s d known_ form width y n) → Owns R width x y m n hm hn op.And
    unfolding rows.carry_in computed computed_flags alu_value alu_flags keeps_flags is_zero aligned_or
    own_and spelt_x spelt_y B8 hm hn = gives_this s R _ false (record { value_is = refl; after = λ b now h. h; kept = λ e. absurd (false≢true e); stored_form = λ f. f; stored_has = λ h. h })
    own_and spelt_x spelt_y W16 hm hn = gives_this s R _ false (record { value_is = refl; after = λ b now h. h; kept = λ e. absurd (false≢true e); stored_form = λ f. f; stored_has = λ h. h })
    own_and spelt_x spelt_y D32 hm hn =
        let first = low_has (val D32 x) (val D32 y) m n (value_canonical image lane p a s d known_ form D32 x spelt_x) hm.0 hn.0 in
        let second = low_round n m (lowered_by a.aligns (val D32 y) (val D32 x)) (low_has (val D32 y) (val D32 x) n m (value_canonical image lane p a s d known_ form D32 y spelt_y) hn.0 hm.0) in
        gives_this s R _ false
        (record {
          value_is = refl;
          after = λ b now h. h;
          kept = λ e. absurd (false≢true e);
          stored_form = λ f. first_form (lowered_by a.aligns (val D32 x) (val D32 y)) (lowered_by a.aligns (val D32 y) (val D32 x)) _ first second f;
          stored_has = λ h. first_has (lowered_by a.aligns (val D32 x) (val D32 y)) (lowered_by a.aligns (val D32 y) (val D32 x)) _ first second h;
        })

  -- -- One operand

  -- the second number is 0, and nothing is taken
  one_taken : (o : Op) → takes_second o ≡ false → (width : Width) (x : Operand) (m : ℕ) → Has image lane p a s d known_ form width x m → AreTaken lane (world_of s) width o (val width x) Top m 0
  one_taken o one width x m hm = record { first = hm.0; second_has = λ e. tt; second_sure = inl (some width) }
    where
      some : (width : Width) → 0 < 2 ^ bits width
      some B8 = lit< tt
      some W16 = lit< tt
      some D32 = lit< tt

  pub altered_goes : (o : Op) → is_computed o ≡ true → takes_second o ≡ false
      → ((width : Width) (m : ℕ) → alu_value (bits width) o m 0 false ≡ computed (bits width) o m 0 (s.flags 0))
      → ((width : Width) (m : ℕ) → alu_flags (bits width) o m 0 false ≡ computed_flags (bits width) o m 0 (s.flags 0))
      → ((width : Width) (m : ℕ) → keeps_flags (bits width) o Top ≡ true → alu_flags (bits width) o m 0 false ≡ kept_flags)
      → (i : Instr) (dst src : Option Operand) (imm : Option ℕ) → HasOne (IsTarget i.width) dst src imm → AreQuiet a p (of_operand true a i.width dst)
      → Gives s (IsAccessed lane s (of_operand false a i.width dst))
      (Row image lane p a s d known_ form i (of_operand false a i.width dst) (of_operand true a i.width dst) (steps.altered o (view_of a d p) (with_operands i dst src imm)))
      (rows.altered o (with_operands i dst src imm))
  altered_goes o is one value_is flags_is kept i (Some x) None None fits quiet =
      let R = IsAccessed lane s (of_operand false a i.width (Some x)) in
      let fx = spelt_target i.width x fits in
      gives_bind s R (Has image lane p a s d known_ form i.width x) _ (machine.value_of i.width (Some x)) _ (read_gives image lane p a s d known_ form R i.width x fx (λ byte h. h)) (λ m hm.
      arithmetic_goes image lane p a s d known_ form i R (of_operand false a i.width (Some x)) x fits quiet o is (val i.width x) Top (value_canonical image lane p a s d known_ form i.width x fx) tt m 0 (one_taken o one i.width x m hm)
      (alu_flags (bits i.width) o m 0 false) (λ b now h. subst (λ f. AreAfter f b now) (flags_is i.width m) h) (kept i.width m) (alu_value (bits i.width) o m 0 false) (value_is i.width m)
      (value (bits i.width) o (val i.width x) Top (sets_of a.flags)) (λ f. f) (λ h. h))
  altered_goes o is one value_is flags_is kept i None src imm fits quiet = absurd fits
  altered_goes o is one value_is flags_is kept i (Some x) (Some y) imm fits quiet = absurd fits
  altered_goes o is one value_is flags_is kept i (Some x) None (Some n) fits quiet = absurd fits

  -- -- A count

  spelt_count : (y : Operand) → IsCount y → IsOperand y
  spelt_count (operand.Reg r) is = tt
  spelt_count (operand.High r) is = absurd is
  spelt_count (operand.Imm n) is = omega (arith, is)
  spelt_count (operand.Mem m) is = absurd is

  no_bytes : (y : Operand) → IsCount y → of_operand false a B8 (Some y) ≡ []
  no_bytes (operand.Reg r) is = refl
  no_bytes (operand.High r) is = absurd is
  no_bytes (operand.Imm n) is = refl
  no_bytes (operand.Mem m) is = absurd is

  count_taken : (o : Op) → takes_second o ≡ true → (width : Width) (x y : Operand) (m n : ℕ) → Has image lane p a s d known_ form width x m → Has image lane p a s d known_ form B8 y n
      → AreTaken lane (world_of s) width o (val width x) (val B8 y) m n
  count_taken o two width x y m n hm hn = record { first = hm.0; second_has = λ _. hn.0.has; second_sure = by hn.0.sure }
    where
      wide : (width : Width) → n < 256 → n < 2 ^ bits width
      wide B8 lt = lt
      wide W16 lt = omega (arith, lt)
      wide D32 lt = omega (arith, lt)

      by : (n < 256) ⊎ ((val B8 y ≡ Top) × (B8 ≡ D32)) → (n < 2 ^ bits width) ⊎ ((val B8 y ≡ Top) × (takes_second o ≡ true))
      by (inl lt) = inl (wide width lt)
      by (inr e) = inr (e.0, two)

  -- a masked count that is known to be 0
  known_top : (w : ℕ) → known w Top ≡ None
  unfolding known
  known_top w = refl

  none_kept : (o : Op) (w a_ n : ℕ) (v : Values) → HasValue lane (world_of s) n v → (n < 4294967296) ⊎ (v ≡ Top) → is_none (known w v) ≡ true → shift_flags w o a_ n ≡ kept_flags
  unfolding shift_flags
  none_kept o w a_ n v has sure e = by (known w v) refl e
    where
      below : (k : ℕ) → known w v ≡ Some k → (n < 4294967296) ⊎ (v ≡ Top) → k ≡ n
      below k f (inl lt) = known_is lane (world_of s) n lt w v k f has
      below k f (inr top) = absurd (none-some k (sym (ap (known w) top ∙ known_top w) ∙ f))

      by : (q : Option ℕ) → known w v ≡ q → is_none q ≡ true → cond (masked n == 0) kept_flags (shift_flags_by w o a_ (masked n)) ≡ kept_flags
      by None f g = absurd (false≢true g)
      by (Some k) f g =
          let same : k ≡ n = below k f sure in
          ap (λ b. cond b kept_flags (shift_flags_by w o a_ (masked n))) (ap (λ j. masked j == 0) (sym same) ∙ g)

  drawn_kept : (f g : FlagsOut) → f ≡ kept_flags → AreDrawn f g → g ≡ kept_flags
  unfolding kept_flags
  drawn_kept f g e h =
      let k : AreDrawn kept_flags g = subst (λ x. AreDrawn x g) e h in
      λ i. record { cf = k.cf i; pf = k.pf i; zf = k.zf i; sf = k.sf i; of = k.of i }

  pub shifted_goes : (o : Op) → is_computed o ≡ true → takes_second o ≡ true → ((w : ℕ) (v : Values) → keeps_flags w o v ≡ is_none (known w v)) → is_own_inverse o ≡ false
      → ((width : Width) (m n : ℕ) → shift_value (bits width) o m n ≡ computed (bits width) o m n (s.flags 0))
      → ((width : Width) (m n : ℕ) → shift_flags (bits width) o m n ≡ computed_flags (bits width) o m n (s.flags 0))
      → ((width : Width) (x y v : Values) → aligned_or a.aligns o width x y v ≡ v)
      → (i : Instr) (dst src : Option Operand) (imm : Option ℕ) → HasTwo (λ x y. IsTarget i.width x × IsCount y) dst src imm → AreQuiet a p (of_operand true a i.width dst)
      → Gives s (IsAccessed lane s (of_operand false a i.width dst))
      (Row image lane p a s d known_ form i (of_operand false a i.width dst) (of_operand true a i.width dst) (steps.shifted o (view_of a d p) (with_operands i dst src imm)))
      (rows.shifted o (with_operands i dst src imm))
  unfolding is_zero
  shifted_goes o is two keeps own value_is flags_is plain i (Some x) (Some y) None fits quiet =
      let R = IsAccessed lane s (of_operand false a i.width (Some x)) in
      let fx = spelt_target i.width x fits.0 in
      let fy = spelt_count y fits.1 in
      gives_bind s R (Has image lane p a s d known_ form B8 y) _ (machine.value_of B8 (Some y)) _
      (read_gives image lane p a s d known_ form R B8 y fy (λ byte h. absurd (subst (λ xs. IsAccessed lane s xs byte) (no_bytes y fits.1) h))) (λ n hn.
      gives_bind s R (Has image lane p a s d known_ form i.width x) _ (machine.value_of i.width (Some x)) _ (read_gives image lane p a s d known_ form R i.width x fx (λ byte h. h)) (λ m hm.
      gives_bind s R (AreDrawn (shift_flags (bits i.width) o m n)) _ (machine.any_flags (shift_flags (bits i.width) o m n)) _ (flags_drawn s R (shift_flags (bits i.width) o m n)) (λ drawn hd.
      arithmetic_goes image lane p a s d known_ form i R (of_operand false a i.width (Some x)) x fits.0 quiet o is (val i.width x) (val B8 y)
      (value_canonical image lane p a s d known_ form i.width x fx) (value_canonical image lane p a s d known_ form B8 y fy) m n (count_taken o two i.width x y m n hm hn)
      drawn (λ b now h. subst (λ f. AreAfter f b now) (flags_is i.width m n) (are_drawn_after (shift_flags (bits i.width) o m n) drawn b now hd h))
      (λ e. drawn_kept (shift_flags (bits i.width) o m n) drawn
      (none_kept o (bits i.width) m n (val B8 y) hn.0.has (small hn.0.sure) (sym (keeps (bits i.width) (val B8 y)) ∙ e)) hd)
      (shift_value (bits i.width) o m n) (value_is i.width m n)
      (cond (is_zero o i.width (Some x) (Some y)) (number (pos 0)) (aligned_or a.aligns o i.width (val i.width x) (val B8 y) (value (bits i.width) o (val i.width x) (val B8 y) (sets_of a.flags))))
      (λ f. subst CanonicalValues (sym (same i.width x y)) f) (λ h. subst (HasValue lane (world_of s) (shift_value (bits i.width) o m n % 2 ^ bits i.width)) (sym (same i.width x y)) h))))
    where
      small : {n : ℕ} {v : Values} → (n < 256) ⊎ ((v ≡ Top) × (B8 ≡ D32)) → (n < 4294967296) ⊎ (v ≡ Top)
      small (inl lt) = inl (omega (arith, lt))
      small (inr e) = inr e.0

      same : (width : Width) (x y : Operand) → cond (is_zero o width (Some x) (Some y)) (number (pos 0)) (aligned_or a.aligns o width (val width x) (val B8 y) (value (bits width) o (val width x) (val B8 y) (sets_of a.flags)))
          ≡ value (bits width) o (val width x) (val B8 y) (sets_of a.flags)
      same width x y = ap (λ t. cond (t && (is_dword width && are_one_register (Some x) (Some y))) (number (pos 0)) (aligned_or a.aligns o width (val width x) (val B8 y) (value (bits width) o (val width x) (val B8 y) (sets_of a.flags)))) own ∙ plain width (val width x) (val B8 y) (value (bits width) o (val width x) (val B8 y) (sets_of a.flags))
  shifted_goes o is two keeps own value_is flags_is plain i None src imm fits quiet = absurd fits
  shifted_goes o is two keeps own value_is flags_is plain i (Some x) None imm fits quiet = absurd fits
  shifted_goes o is two keeps own value_is flags_is plain i (Some x) (Some y) (Some n) fits quiet = absurd fits

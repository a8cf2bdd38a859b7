-- The values that rows make have the one form of their intervals.
use Rattle.std.proofs.Common.{◌≡◌, ℕ, ◌+◌, ◌-◌, ◌/◌, ◌%◌, ◌^◌, ◌<◌, ◌≤◌, ◌&&◌, Bool, true, false, cond, Option, Some, None, refl, subst, arith, lit<}
use Rattle.std.proofs.lemmas.Int.{ints}
use Rattle.std.proofs.lemmas.Bool.{cond_both, and_parts}
use Rattle.std.specs.Prelude.{pos, negsuc, int_le, int_lt}
use Rattle.std.proofs.lemmas.Option.{same_Some}
use Rattle.ia32_types.specs.declared.Op.{Op}
use Rattle.ia32_types.specs.declared.Op.TheVariants as op
use Rattle.ia32_types.specs.declared.Flag.TheVariants.{Cf}
use Rattle.ia32_types.specs.Sets.{has_flag}
use Rattle.ia32_types.specs.declared.Operand.{Operand}
use Rattle.ia32_types.specs.declared.Operand.TheVariants as operand
use Rattle.ia32_types.specs.declared.Width.{Width}
use Rattle.ia32_types.specs.declared.Width.TheVariants.{B8, W16, D32}
use Rattle.ia32_types.specs.Numbers.{reg_number, size}
use Rattle.ia32_semantics.specs.Alu.{sign}
use Rattle.ia32_semantics.specs.Operands.{bits, low_part}
use Rattle.ia32_semantics.specs.Product.{extended}
use Rattle.ia32_semantics.specs.Shift.{masked}
use Rattle.alocs.specs.Cells.{Division}
use Rattle.strided.specs.Interval.{Interval, IsCanonical, one}
use Rattle.strided.specs.Operations.{spaced}
use Rattle.strided.proofs.MemberLemmas.{one_canonical, int_le_true}
use Rattle.strided.proofs.SpacedLemmas.{spaced_canonical}
use Rattle.si_bits.specs.Concrete as concrete
use Rattle.si_bits.specs.Operations.{up_to, mul}
use Rattle.si_bits.proofs.SignLemmas.{number_fits, fits_between}
use Rattle.vset.specs.declared.facts.AbsFlags.{AbsFlags}
use Rattle.vset.specs.Operations.{add, sub, join}
use Rattle.vset.specs.Values.{Values, Top, CanonicalValues, only_number}
use Rattle.abs_alu.specs.Computed.{is_computed, computed}
use Rattle.abs_alu.specs.Operands.{known, takes_second, with_second, operands}
use Rattle.abs_alu.specs.Results.{computed_or, wide, value}
use Rattle.abs_alu.specs.Words.{numbers, number, words, by_carry, with_carries, interval_of, of_intervals, of_numbers, shifted_by, shifted_interval, shifted}
use Rattle.abs_alu.proofs.CanonicalLemmas.{number_canonical, only_canonical, add_values_canonical, sub_values_canonical, numbers_canonical}
use Rattle.abs_alu.proofs.ComputedLemmas.{computed_below}
use Rattle.abs_alu.proofs.OpLemmas.{each_op}
use Rattle.abs_semantics.specs.States.{AbsState, HasCanonical}
use Rattle.abs_semantics.specs.Accesses.{read}
use Rattle.abs_semantics.specs.Operands.{any_of, numbers_or_any, read_as, low_numbers, low_of, second_byte, operand_value, is_up_to}
use Rattle.abs_semantics.proofs.FormLemmas.{word_form, reads_have_form}
use Rattle.abs_semantics.proofs.ReadLemmas.{join_form}
use Rattle.abs_steps.specs.Flags.{MayBe, may_hold, decided}
use Rattle.abs_steps.specs.Results.{sign_extended, extended_or_any, widened, either_sign, sign_of_numbers, sign_of, truth_of, chosen_by}
use Rattle.abs_steps.specs.Rows.{pushed_at, risen}
use Rattle.abs_steps.specs.Strings.{stepped, grown}
use Rattle.step_soundness.proofs.ArithmeticLaws.{width_of}
use Rattle.step_soundness.proofs.IntervalForms.{up_to_form, shl_form, shr_form, sar_form, low_8_form, low_16_form, extend_8_form, extend_16_form, mul_form, and_form, or_form, xor_form}
use Rattle.step_soundness.proofs.SinceLaws.{known_below}

pub small_form : (k : ℕ) → k < 2147483648 → CanonicalValues (number (pos k))
small_form k lt = number_canonical (pos k) (fits_between (pos k) (omega (arith, ints)) (omega (arith, ints)))

computed_form : (n : ℕ) → n < 4294967296 → CanonicalValues (number (concrete.number n))
computed_form n lt = number_canonical (concrete.number n) (number_fits n lt)

pub any_form : (width : Width) → CanonicalValues (any_of width)
any_form B8 = numbers_canonical (up_to 255) (up_to_form 255 (lit< tt))
any_form W16 = numbers_canonical (up_to 65535) (up_to_form 65535 (lit< tt))
any_form D32 = tt

-- -- Operands

low_numbers_form : (v : Values) → CanonicalValues v → (width : Width) → CanonicalValues (low_of width v)
low_numbers_form v form B8 = by (only_number v) refl
  where
    by : (o : Option Interval) → only_number v ≡ o → CanonicalValues (low_numbers B8 o)
    by None e = any_form B8
    by (Some x) e = numbers_canonical _ (low_8_form x (only_canonical v x form e))
low_numbers_form v form W16 = by (only_number v) refl
  where
    by : (o : Option Interval) → only_number v ≡ o → CanonicalValues (low_numbers W16 o)
    by None e = any_form W16
    by (Some x) e = numbers_canonical _ (low_16_form x (only_canonical v x form e))
low_numbers_form v form D32 = form

second_form : (o : Option ℕ) → CanonicalValues (second_byte o)
second_form None = any_form B8
second_form (Some n) = small_form (n / 256 % 256) (omega arith)

or_any_form : (width : Width) (v : Values) → CanonicalValues v → CanonicalValues (numbers_or_any width (only_number v))
or_any_form width v form = by (only_number v) refl
  where
    by : (o : Option Interval) → only_number v ≡ o → CanonicalValues (numbers_or_any width o)
    by None e = any_form width
    by (Some x) e = numbers_canonical x (only_canonical v x form e)

pub read_form : (width : Width) (v : Values) → CanonicalValues v → CanonicalValues (read_as width v)
read_form B8 v form = or_any_form B8 v form
read_form W16 v form = or_any_form W16 v form
read_form D32 v form = form

cut_part_below : (width : Width) (n : ℕ) → n < 4294967296 → low_part width n < 4294967296
cut_part_below B8 n lt = omega (arith, lt)
cut_part_below W16 n lt = omega (arith, lt)
cut_part_below D32 n lt = lt

module _ (a : AbsState) (form : HasCanonical a) (d : Division) (p : ℕ) where
  pub stored_form : (width : Width) (v : Values) → CanonicalValues (read_as width (read a d p v (size width)))
  stored_form width v = read_form width (read a d p v (size width)) (reads_have_form a d p v (size width) form)

  pub operand_form : (width : Width) (o : Operand) → ((k : ℕ) → o ≡ operand.Imm k → k < 4294967296) → CanonicalValues (operand_value a d p width o)
  unfolding operand_value
  operand_form width (operand.Reg r) fits = low_numbers_form (a.registers (reg_number r)) (form.registers (reg_number r)) width
  operand_form width (operand.High r) fits = second_form (known 32 (a.registers (reg_number r)))
  operand_form width (operand.Imm n) fits = word_form (low_part width n) (cut_part_below width n (fits n refl))
  operand_form width (operand.Mem m) fits = cond_both m.gs (any_of width) _ CanonicalValues (λ _. any_form width) (λ _. stored_form width _)

-- -- Arithmetic

module _ (width : Width) (a b : Values) (fa : CanonicalValues a) (fb : CanonicalValues b) (f : AbsFlags) where
  fits_word : (n : ℕ) → n < 2 ^ bits width → n < 4294967296
  fits_word n lt = by width n lt
    where
      by : (width : Width) (n : ℕ) → n < 2 ^ bits width → n < 4294967296
      by B8 n lt = omega (arith, lt)
      by W16 n lt = omega (arith, lt)
      by D32 n lt = lt

  known_form : (o : Op) → is_computed o ≡ true → (other : Values) → CanonicalValues other → (p q : Option ℕ) (c : Option Bool)
      → ((k : ℕ) → p ≡ Some k → k < 2 ^ bits width) → ((k : ℕ) → q ≡ Some k → k < 2 ^ bits width) → CanonicalValues (computed_or other (bits width) o (with_second p q c))
  known_form o is other form None q c first second = form
  known_form o is other form (Some k) None c first second = form
  known_form o is other form (Some k) (Some j) None first second = form
  known_form o is other form (Some k) (Some j) (Some t) first second =
      computed_form (computed (bits width) o k j t) (fits_word (computed (bits width) o k j t) (computed_below (bits width) (width_of width) k j t (first k refl) (second j refl) o is))

  pub arguments_form : (o : Op) → is_computed o ≡ true → (other : Values) → CanonicalValues other → CanonicalValues (computed_or other (bits width) o (operands (bits width) o a b f))
  unfolding operands
  arguments_form o is other form =
      known_form o is other form (known (bits width) a) (cond (takes_second o) (known (bits width) b) (Some 0)) _
      (λ k e. known_below (bits width) a k e)
      (λ k e. second (takes_second o) k e)
    where
      some : (width : Width) → 0 < 2 ^ bits width
      some B8 = lit< tt
      some W16 = lit< tt
      some D32 = lit< tt

      second : (t : Bool) (k : ℕ) → cond t (known (bits width) b) (Some 0) ≡ Some k → k < 2 ^ bits width
      second true k e = known_below (bits width) b k e
      second false k e = let zero_is : 0 ≡ k = same_Some 0 k e in subst (λ n. n < 2 ^ bits width) zero_is (some width)

  intervals_form : (o : Op) → ((x y : Interval) → IsCanonical x → IsCanonical y → IsCanonical (interval_of o x y)) → CanonicalValues (of_numbers o a b)
  unfolding of_numbers
  intervals_form o form = by (only_number a) (only_number b) refl refl
    where
      by : (p q : Option Interval) → only_number a ≡ p → only_number b ≡ q → CanonicalValues (of_intervals o p q)
      by None q e g = tt
      by (Some x) None e g = tt
      by (Some x) (Some y) e g = numbers_canonical (interval_of o x y) (form x y (only_canonical a x fa e) (only_canonical b y fb g))

  shifts_form : (o : Op) → ((x : Interval) (n : ℕ) → n < 32 → IsCanonical x → IsCanonical (shifted_by o x n)) → CanonicalValues (shifted o a b)
  unfolding shifted
  shifts_form o form = by (only_number a) (known 32 b) refl
    where
      by : (p : Option Interval) (c : Option ℕ) → only_number a ≡ p → CanonicalValues (shifted_interval o p c)
      by None c e = tt
      by (Some x) None e = tt
      by (Some x) (Some n) e = numbers_canonical (shifted_by o x (masked n)) (form x (masked n) (omega arith) (only_canonical a x fa e))

  carries_form : (x y : Values) → CanonicalValues x → CanonicalValues y → (z o : Bool) → CanonicalValues (by_carry z o x y)
  carries_form x y fx fy true true = join_form x y fx fy
  carries_form x y fx fy true false = fx
  carries_form x y fx fy false true = fy
  carries_form x y fx fy false false = tt

  minus_one : CanonicalValues (number (negsuc 0))
  minus_one = number_canonical (negsuc 0) (fits_between (negsuc 0) (omega (arith, ints)) (omega (arith, ints)))

  zero_form : CanonicalValues (number (pos 0))
  zero_form = small_form 0 (lit< tt)

  one_form : CanonicalValues (number (pos 1))
  one_form = small_form 1 (lit< tt)

wide_form : (a b : Values) → CanonicalValues a → CanonicalValues b → (f : AbsFlags) (o : Op) → is_computed o ≡ true → CanonicalValues (wide o a b f)
unfolding words with_carries interval_of shifted_by is_computed
wide_form a b fa fb f =
    each_op (λ o. CanonicalValues (wide o a b f))
    (add_values_canonical a b fa fb) (intervals_form D32 a b fa fb f op.Or or_form)
    (carries_form D32 a b fa fb f _ _ (add_values_canonical (add a b) _ (add_values_canonical a b fa fb) (zero_form D32 a b fa fb f)) (add_values_canonical (add a b) _ (add_values_canonical a b fa fb) (one_form D32 a b fa fb f)) (has_flag f.zero Cf) (has_flag f.one Cf))
    (carries_form D32 a b fa fb f _ _ (sub_values_canonical (sub a b) _ (sub_values_canonical a b fa fb) (zero_form D32 a b fa fb f)) (sub_values_canonical (sub a b) _ (sub_values_canonical a b fa fb) (one_form D32 a b fa fb f)) (has_flag f.zero Cf) (has_flag f.one Cf))
    (intervals_form D32 a b fa fb f op.And and_form) (sub_values_canonical a b fa fb) (intervals_form D32 a b fa fb f op.Xor xor_form)
    (sub_values_canonical a b fa fb) (intervals_form D32 a b fa fb f op.Test and_form)
    (add_values_canonical a _ fa (one_form D32 a b fa fb f)) (sub_values_canonical a _ fa (one_form D32 a b fa fb f)) (sub_values_canonical _ a (minus_one D32 a b fa fb f) fa) (sub_values_canonical _ a (zero_form D32 a b fa fb f) fa)
    (intervals_form D32 a b fa fb f op.Mul mul_form) (intervals_form D32 a b fa fb f op.Imul mul_form)
    (shifts_form D32 a b fa fb f op.Shl (λ x n lt c. shl_form x c n)) (shifts_form D32 a b fa fb f op.Shr (λ x n lt c. shr_form x c n lt)) (shifts_form D32 a b fa fb f op.Sar (λ x n lt c. sar_form x c n lt))
    (arguments_form D32 a b fa fb f op.Rol refl Top tt) (arguments_form D32 a b fa fb f op.Ror refl Top tt)

-- what an operation gives
pub value_form : (width : Width) (a b : Values) → CanonicalValues a → CanonicalValues b → (f : AbsFlags) (o : Op) → is_computed o ≡ true → CanonicalValues (value (bits width) o a b f)
unfolding value
value_form B8 a b fa fb f o is = arguments_form B8 a b fa fb f o is (numbers (up_to 255)) (any_form B8)
value_form W16 a b fa fb f o is = arguments_form W16 a b fa fb f o is (numbers (up_to 65535)) (any_form W16)
value_form D32 a b fa fb f o is = wide_form a b fa fb f o is

-- -- Other values

pub pushed_form : (v : Values) → CanonicalValues v → CanonicalValues (pushed_at v)
pushed_form v form = sub_values_canonical v (number (pos 4)) form (small_form 4 (lit< tt))

pub risen_form : (v : Values) → CanonicalValues v → CanonicalValues (risen v)
risen_form v form = add_values_canonical v (number (pos 4)) form (small_form 4 (lit< tt))

decided_form : (may may_not : Bool) (sure never other : Values) → CanonicalValues sure → CanonicalValues never → CanonicalValues other → CanonicalValues (decided may may_not sure never other)
decided_form true true sure never other a b c = c
decided_form true false sure never other a b c = a
decided_form false true sure never other a b c = b
decided_form false false sure never other a b c = c

pub stepped_form : (may : MayBe) (z : ℕ) (v : Values) → z ≤ 4 → CanonicalValues v → CanonicalValues (stepped may z v)
stepped_form may z v few form =
    let small = small_form z (omega (arith, few)) in
    let down = sub_values_canonical v (number (pos z)) form small in
    let up = add_values_canonical v (number (pos z)) form small in
    decided_form (may 5 true) (may 5 false) _ _ _ down up (join_form (add v (number (pos z))) (sub v (number (pos z))) up down)

pub grown_form : (z : ℕ) (c : Interval) (v : Values) → z < 2147483648 → IsCanonical c → CanonicalValues v → CanonicalValues (grown z c v)
grown_form z c v few fc form =
    add_values_canonical v (numbers (mul c (one (pos z)))) form
    (numbers_canonical (mul c (one (pos z))) (mul_form c (one (pos z)) fc (one_canonical (pos z) (fits_between (pos z) (omega (arith, ints)) (omega (arith, ints))))))

pub truth_form : (c : ℕ) (may : MayBe) → CanonicalValues (truth_of c may)
unfolding truth_of
truth_form c may = decided_form (may_hold c may true) (may_hold c may false) _ _ _ (small_form 1 (lit< tt)) (small_form 0 (lit< tt)) (numbers_canonical (up_to 1) (up_to_form 1 (lit< tt)))

pub choice_form : (c : ℕ) (may : MayBe) (new old : Values) → CanonicalValues new → CanonicalValues old → CanonicalValues (chosen_by c may new old)
unfolding chosen_by
choice_form c may new old fn fo = decided_form (may_hold c may true) (may_hold c may false) new old (join new old) fn fo (join_form new old fn fo)

pub sign_form : (v : Values) → CanonicalValues (sign_of v)
unfolding sign_of
sign_form v = by (only_number v)
  where
    either : CanonicalValues either_sign
    either = numbers_canonical (spaced 1 (negsuc 0) (pos 0)) (spaced_canonical 1 (negsuc 0) (pos 0) (omega (arith, ints)) (omega (arith, ints)) (omega (arith, ints)))

    by : (o : Option Interval) → CanonicalValues (sign_of_numbers o)
    by None = either
    by (Some x) =
        cond_both (int_le (pos 0) x.lo) (number (pos 0)) _ CanonicalValues (λ _. small_form 0 (lit< tt))
        (λ _. cond_both (int_lt x.hi (pos 0)) (number (negsuc 0)) either_sign CanonicalValues (λ _. number_canonical (negsuc 0) (fits_between (negsuc 0) (omega (arith, ints)) (omega (arith, ints)))) (λ _. either))

within_form : (v : Values) → CanonicalValues v → (from : Width) → CanonicalValues (sign_extended from (only_number v))
within_form v form B8 = by (only_number v) refl
  where
    by : (o : Option Interval) → only_number v ≡ o → CanonicalValues (sign_extended B8 o)
    by None e = tt
    by (Some x) e =
        cond_both (is_up_to 255 (Some x)) _ Top CanonicalValues
        (λ yes. numbers_canonical _ (extend_8_form x (only_canonical v x form e) (int_le_true x.hi (pos 255) (and_parts (int_le (pos 0) x.lo) (int_le x.hi (pos 255)) yes).1))) (λ _. tt)
within_form v form W16 = by (only_number v) refl
  where
    by : (o : Option Interval) → only_number v ≡ o → CanonicalValues (sign_extended W16 o)
    by None e = tt
    by (Some x) e =
        cond_both (is_up_to 65535 (Some x)) _ Top CanonicalValues
        (λ yes. numbers_canonical _ (extend_16_form x (only_canonical v x form e) (int_le_true x.hi (pos 65535) (and_parts (int_le (pos 0) x.lo) (int_le x.hi (pos 65535)) yes).1))) (λ _. tt)
within_form v form D32 = by (only_number v)
  where
    by : (o : Option Interval) → CanonicalValues (sign_extended D32 o)
    by None = tt
    by (Some x) = tt

extended_form : (signed : Bool) (from : Width) (w : ℕ) (v : Values) → w ≤ 16 → 2 ^ w ≤ 65536 → bits from ≤ 16 → CanonicalValues (extended_or_any signed from (known w v))
unfolding extended
extended_form signed from w v few most narrow = by (known w v) refl
  where
    by : (o : Option ℕ) → known w v ≡ o → CanonicalValues (extended_or_any signed from o)
    by None e = any_form W16
    by (Some n) e =
        let below : n < 2 ^ w = known_below w v n e in
        word_form _ (cond_both (signed && sign (bits from) n) (n + 65536 - 2 ^ bits from) n (λ (k : ℕ). k < 4294967296) (λ _. omega (arith, below, most)) (λ _. omega (arith, below, most)))

pub widened_form : (signed : Bool) (from to : Width) (v : Values) → CanonicalValues v → CanonicalValues (widened signed from to v)
unfolding widened
widened_form false B8 D32 v form = form
widened_form false W16 D32 v form = form
widened_form false D32 D32 v form = form
widened_form true B8 D32 v form = within_form v form B8
widened_form true W16 D32 v form = within_form v form W16
widened_form true D32 D32 v form = within_form v form D32
widened_form false B8 W16 v form = extended_form false B8 8 v (omega arith) (omega arith) (omega arith)
widened_form true B8 W16 v form = extended_form true B8 8 v (omega arith) (omega arith) (omega arith)
widened_form false W16 W16 v form = extended_form false W16 16 v (omega arith) (omega arith) (omega arith)
widened_form true W16 W16 v form = extended_form true W16 16 v (omega arith) (omega arith) (omega arith)
widened_form false D32 W16 v form = any_form W16
widened_form true D32 W16 v form = any_form W16
widened_form false B8 B8 v form = any_form B8
widened_form false W16 B8 v form = any_form B8
widened_form false D32 B8 v form = any_form B8
widened_form true B8 B8 v form = any_form B8
widened_form true W16 B8 v form = any_form B8
widened_form true D32 B8 v form = any_form B8

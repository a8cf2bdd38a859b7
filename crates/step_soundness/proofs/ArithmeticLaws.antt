-- What an operation of arithmetic gives, and its flags, are among the values and flags that the abstract operation gives, for all numbers
-- that a row may have read.
use Rattle.std.proofs.Common.{◌≡◌, ◌⊎◌, inl, inr, ℕ, ◌%◌, ◌^◌, ◌<◌, Bool, true, false, cond, Option, Some, None, refl, sym, ◌∙◌, ap, subst, arith, pos}
use Rattle.std.proofs.lemmas.Bool.{true≢false}
use Rattle.std.proofs.lemmas.Option.{none-some}
use Rattle.ia32_types.specs.declared.Flag.TheVariants.{Cf}
use Rattle.ia32_types.specs.declared.Op.{Op}
use Rattle.ia32_types.specs.declared.Op.TheVariants as op
use Rattle.ia32_types.specs.declared.Width.{Width}
use Rattle.ia32_types.specs.declared.Width.TheVariants.{B8, W16, D32}
use Rattle.ia32_types.specs.Sets.{has_flag}
use Rattle.ia32_alu.specs.Widths.{IsWidth}
use Rattle.ia32_semantics.specs.declared.flags.Flags.{Flags}
use Rattle.ia32_semantics.specs.Operands.{bits}
use Rattle.strided.specs.Interval.{Interval}
use Rattle.vset.specs.declared.facts.AbsFlags.{AbsFlags}
use Rattle.vset.specs.Members.{HasValue}
use Rattle.vset.specs.Operations.{add, sub, join}
use Rattle.vset.specs.Values.{Values, Top, Parts, CanonicalValues, only_number}
use Rattle.vset.specs.World.{World}
use Rattle.abs_alu.specs.Computed.{is_computed, computed, computed_flags}
use Rattle.abs_alu.specs.Flags.{flags_out, is_shift, unknown_flags}
use Rattle.abs_alu.specs.Operands.{known, takes_second, with_second, operands, single_word}
use Rattle.abs_alu.specs.Results.{computed_or, narrow, wide, value, flags}
use Rattle.abs_alu.specs.Runs.{Allows, AllowsAll, AreAfter, IsDone}
use Rattle.abs_alu.specs.Words.{number, words, by_carry, with_carries, of_intervals, of_numbers, shifted_interval, shifted}
use Rattle.abs_alu.proofs.ComputedLemmas.{computed_below}
use Rattle.abs_alu.proofs.FlagLemmas.{after_allows}
use Rattle.abs_alu.proofs.OpLemmas.{each_op}
use Rattle.abs_alu.proofs.ResultLemmas.{flags_hold, value_holds, width_fits}
use Rattle.abs_alu.proofs.WordLemmas.{known_is}
use Rattle.abs_alu.proofs.WrittenLemmas.{unknown_covers}
use Rattle.step_soundness.proofs.ReadLaws.{IsRead}
use Rattle.step_soundness.proofs.WordLaws.{any_has}
use Rattle.step_soundness.proofs.WidthLaws.{fits_word, cut_same}

pub width_of : (width : Width) → IsWidth (bits width)
width_of B8 = inl refl
width_of W16 = inr (inl refl)
width_of D32 = inr (inr refl)

-- -- An operand that may be any

-- an operation with an operand of which nothing is known
abbrev pub IsAny : Op → Values → Values → Type 0
IsAny o a b = (a ≡ Top) ⊎ ((b ≡ Top) × (takes_second o ≡ true))

module _ (lane : ℕ) (world : World) (n : ℕ) where
  add_any : (a b : Values) → (a ≡ Top) ⊎ (b ≡ Top) → HasValue lane world n (add a b)
  unfolding add
  add_any Top b e = tt
  add_any (Parts xs) Top e = tt
  add_any (Parts xs) (Parts ys) (inl e) = cc
  add_any (Parts xs) (Parts ys) (inr e) = cc

  sub_any : (a b : Values) → (a ≡ Top) ⊎ (b ≡ Top) → HasValue lane world n (sub a b)
  unfolding sub
  sub_any Top b e = tt
  sub_any (Parts xs) Top e = tt
  sub_any (Parts xs) (Parts ys) (inl e) = cc
  sub_any (Parts xs) (Parts ys) (inr e) = cc

  none_of_top : (a : Values) → a ≡ Top → only_number a ≡ None
  none_of_top a e = ap only_number e

  intervals_any : (o : Op) (x y : Option Interval) → (x ≡ None) ⊎ (y ≡ None) → HasValue lane world n (of_intervals o x y)
  intervals_any o None y e = tt
  intervals_any o (Some x) None e = tt
  intervals_any o (Some x) (Some y) (inl e) = cc
  intervals_any o (Some x) (Some y) (inr e) = cc

  numbers_any : (o : Op) (a b : Values) → (a ≡ Top) ⊎ (b ≡ Top) → HasValue lane world n (of_numbers o a b)
  unfolding of_numbers
  numbers_any o a b (inl e) = intervals_any o (only_number a) (only_number b) (inl (none_of_top a e))
  numbers_any o a b (inr e) = intervals_any o (only_number a) (only_number b) (inr (none_of_top b e))

  known_top : (w : ℕ) (a : Values) → a ≡ Top → known w a ≡ None
  unfolding known
  known_top w a e = ap (λ v. single_word w (only_number v)) e

  shifted_any_by : (o : Op) (x : Option Interval) (c : Option ℕ) → (x ≡ None) ⊎ (c ≡ None) → HasValue lane world n (shifted_interval o x c)
  shifted_any_by o None c e = tt
  shifted_any_by o (Some x) None e = tt
  shifted_any_by o (Some x) (Some c) (inl e) = cc
  shifted_any_by o (Some x) (Some c) (inr e) = cc

  shifted_any : (o : Op) (a b : Values) → (a ≡ Top) ⊎ (b ≡ Top) → HasValue lane world n (shifted o a b)
  unfolding shifted
  shifted_any o a b (inl e) = shifted_any_by o (only_number a) (known 32 b) (inl (none_of_top a e))
  shifted_any o a b (inr e) = shifted_any_by o (only_number a) (known 32 b) (inr (known_top 32 b e))

  no_arguments : (p q : Option ℕ) (c : Option Bool) → (p ≡ None) ⊎ (q ≡ None) → with_second p q c ≡ None
  no_arguments None q c e = refl
  no_arguments (Some p) None c e = refl
  no_arguments (Some p) (Some q) c (inl e) = cc
  no_arguments (Some p) (Some q) c (inr e) = cc

  operands_any : (w : ℕ) (o : Op) (a b : Values) (f : AbsFlags) → IsAny o a b → operands w o a b f ≡ None
  unfolding operands
  operands_any w o a b f (inl e) = no_arguments (known w a) (cond (takes_second o) (known w b) (Some 0)) _ (inl (known_top w a e))
  operands_any w o a b f (inr e) =
      no_arguments (known w a) (cond (takes_second o) (known w b) (Some 0)) _ (inr (ap (λ t. cond t (known w b) (Some 0)) e.1 ∙ known_top w b e.0))

  is_top_add : (a b : Values) → (a ≡ Top) ⊎ (b ≡ Top) → add a b ≡ Top
  unfolding add
  is_top_add Top b e = refl
  is_top_add (Parts xs) Top e = refl
  is_top_add (Parts xs) (Parts ys) (inl e) = cc
  is_top_add (Parts xs) (Parts ys) (inr e) = cc

  is_top_sub : (a b : Values) → (a ≡ Top) ⊎ (b ≡ Top) → sub a b ≡ Top
  unfolding sub
  is_top_sub Top b e = refl
  is_top_sub (Parts xs) Top e = refl
  is_top_sub (Parts xs) (Parts ys) (inl e) = cc
  is_top_sub (Parts xs) (Parts ys) (inr e) = cc

  carry_any : (f : AbsFlags) (c : Bool) → Allows f Cf c → (x y : Values) → x ≡ Top → y ≡ Top → HasValue lane world n (by_carry (has_flag f.zero Cf) (has_flag f.one Cf) x y)
  unfolding join
  carry_any f c may x y e g = by (has_flag f.zero Cf) (has_flag f.one Cf) refl refl x y e g
    where
      by : (z o : Bool) → has_flag f.zero Cf ≡ z → has_flag f.one Cf ≡ o → (x y : Values) → x ≡ Top → y ≡ Top → HasValue lane world n (by_carry z o x y)
      by true true p q Top y e g = tt
      by true true p q (Parts xs) y e g = cc
      by true false p q Top y e g = tt
      by true false p q (Parts xs) y e g = cc
      by false true p q x Top e g = tt
      by false true p q x (Parts ys) e g = cc
      by false false p q x y e g = absurd (neither c may)
        where
          neither : (c : Bool) → Allows f Cf c → ⊥
          neither true h = true≢false (sym h ∙ q)
          neither false h = true≢false (sym h ∙ p)

  module _ (a b : Values) (f : AbsFlags) (c : Bool) (may : Allows f Cf c) where
    either_any : (o : Op) → IsAny o a b → (a ≡ Top) ⊎ (b ≡ Top)
    either_any o (inl e) = inl e
    either_any o (inr e) = inr e.0

    one_any : (o : Op) → takes_second o ≡ false → IsAny o a b → a ≡ Top
    one_any o one (inl e) = e
    one_any o one (inr e) = absurd (true≢false (sym e.1 ∙ one))

    wide_any : (o : Op) → is_computed o ≡ true → IsAny o a b → HasValue lane world n (wide o a b f)
    unfolding words with_carries takes_second
    wide_any =
        each_op (λ o. IsAny o a b → HasValue lane world n (wide o a b f))
        (λ e. add_any a b (either_any op.Add e)) (λ e. numbers_any op.Or a b (either_any op.Or e))
        (λ e. carry_any f c may _ _ (is_top_add (add a b) (number (pos 0)) (inl (is_top_add a b (either_any op.Adc e)))) (is_top_add (add a b) (number (pos 1)) (inl (is_top_add a b (either_any op.Adc e)))))
        (λ e. carry_any f c may _ _ (is_top_sub (sub a b) (number (pos 0)) (inl (is_top_sub a b (either_any op.Sbb e)))) (is_top_sub (sub a b) (number (pos 1)) (inl (is_top_sub a b (either_any op.Sbb e)))))
        (λ e. numbers_any op.And a b (either_any op.And e)) (λ e. sub_any a b (either_any op.Sub e)) (λ e. numbers_any op.Xor a b (either_any op.Xor e))
        (λ e. sub_any a b (either_any op.Cmp e)) (λ e. numbers_any op.Test a b (either_any op.Test e))
        (λ e. add_any a _ (inl (one_any op.Inc refl e))) (λ e. sub_any a _ (inl (one_any op.Dec refl e))) (λ e. sub_any _ a (inr (one_any op.Not refl e))) (λ e. sub_any _ a (inr (one_any op.Neg refl e)))
        (λ e. numbers_any op.Mul a b (either_any op.Mul e)) (λ e. numbers_any op.Imul a b (either_any op.Imul e))
        (λ e. shifted_any op.Shl a b (either_any op.Shl e)) (λ e. shifted_any op.Shr a b (either_any op.Shr e)) (λ e. shifted_any op.Sar a b (either_any op.Sar e))
        (λ e. subst (λ x. HasValue lane world n (computed_or Top 32 op.Rol x)) (sym (operands_any 32 op.Rol a b f e)) tt)
        (λ e. subst (λ x. HasValue lane world n (computed_or Top 32 op.Ror x)) (sym (operands_any 32 op.Ror a b f e)) tt)

    -- the low bits of any number
    pub value_any : (width : Width) (o : Op) → n < 2 ^ bits width → is_computed o ≡ true → IsAny o a b → HasValue lane world n (value (bits width) o a b f)
    unfolding value
    value_any B8 o lt is any = subst (λ x. HasValue lane world n (narrow 8 o x)) (sym (operands_any 8 o a b f any)) (any_has lane world B8 n lt)
    value_any W16 o lt is any = subst (λ x. HasValue lane world n (narrow 16 o x)) (sym (operands_any 16 o a b f any)) (any_has lane world W16 n lt)
    value_any D32 o lt is any = wide_any o is any

-- -- All operands

shift_takes : (o : Op) → is_computed o ≡ true → is_shift o ≡ true → takes_second o ≡ true
unfolding takes_second
shift_takes =
    each_op (λ o. is_shift o ≡ true → takes_second o ≡ true)
    (λ e. refl) (λ e. refl) (λ e. refl) (λ e. refl) (λ e. refl) (λ e. refl) (λ e. refl) (λ e. refl) (λ e. refl)
    (λ e. cc) (λ e. cc) (λ e. cc) (λ e. cc)
    (λ e. refl) (λ e. refl) (λ e. refl) (λ e. refl) (λ e. refl) (λ e. refl) (λ e. refl)

-- what a row has read for an operation: the second number is 0 where none is taken
pub record AreTaken (lane : ℕ) (world : World) (width : Width) (o : Op) (a b : Values) (m n : ℕ) : Type 0 where
  pub first : IsRead lane world width a m
  pub second_has : takes_second o ≡ true → HasValue lane world n b
  pub second_sure : (n < 2 ^ bits width) ⊎ ((b ≡ Top) × (takes_second o ≡ true))

module _ (lane : ℕ) (world : World) (width : Width) (o : Op) (is : is_computed o ≡ true) (a b : Values) (fa : CanonicalValues a) (fb : CanonicalValues b) (f : AbsFlags)
    (m n : ℕ) (taken : AreTaken lane world width o a b m n) (before : Flags) (allowed : AllowsAll f before) where
  sure_or_any : ((m < 2 ^ bits width) × (n < 2 ^ bits width)) ⊎ IsAny o a b
  sure_or_any = by taken.first.sure taken.second_sure
    where
      by : (m < 2 ^ bits width) ⊎ ((a ≡ Top) × (width ≡ D32)) → (n < 2 ^ bits width) ⊎ ((b ≡ Top) × (takes_second o ≡ true)) → ((m < 2 ^ bits width) × (n < 2 ^ bits width)) ⊎ IsAny o a b
      by (inl x) (inl y) = inl (x, y)
      by (inl x) (inr y) = inr (inr y)
      by (inr x) y = inr (inl x.0)

  -- a count that is known is the one that was read
  count_is : is_shift o ≡ true → (k : ℕ) → known (bits width) b ≡ Some k → k ≡ n
  count_is shift k e = by taken.second_sure
    where
      by : (n < 2 ^ bits width) ⊎ ((b ≡ Top) × (takes_second o ≡ true)) → k ≡ n
      by (inl lt) = known_is lane world n (fits_word width n lt) (bits width) b k e (taken.second_has (shift_takes o is shift))
      by (inr any) = absurd (none-some k (sym (known_top lane world n (bits width) b any.0) ∙ e))

  -- the flags that the operation leaves
  module _ (now : Flags) (after : AreAfter (computed_flags (bits width) o m n before.cf) before now) where
    abbrev done_by : m < 2 ^ bits width → n < 2 ^ bits width → IsDone lane world (bits width) o a b f
    done_by lm ln =
        record { first = m; second = n; before = before; now = now; first_below = lm; second_below = ln; first_held = taken.first.has; second_held = taken.second_has; flags_allowed = allowed; flags_after = after }

    pub result_has : HasValue lane world (computed (bits width) o m n before.cf % 2 ^ bits width) (value (bits width) o a b f)
    result_has = by sure_or_any
      where
        by : ((m < 2 ^ bits width) × (n < 2 ^ bits width)) ⊎ IsAny o a b → HasValue lane world (computed (bits width) o m n before.cf % 2 ^ bits width) (value (bits width) o a b f)
        by (inl both) =
            subst (λ k. HasValue lane world k (value (bits width) o a b f)) (cut_same width (computed (bits width) o m n before.cf) (computed_below (bits width) (width_of width) m n before.cf both.0 both.1 o is))
            (value_holds lane world a b f fa fb (bits width) (width_of width) o (done_by both.0 both.1) is)
        by (inr any) = value_any lane world (computed (bits width) o m n before.cf % 2 ^ bits width) a b f before.cf allowed.0 width o (below width (computed (bits width) o m n before.cf)) is any
          where
            below : (width : Width) (k : ℕ) → k % 2 ^ bits width < 2 ^ bits width
            below B8 k = omega arith
            below W16 k = omega arith
            below D32 k = omega arith

    pub flags_have : AllowsAll (flags (bits width) o a b f) now
    unfolding flags
    flags_have = by sure_or_any
      where
        by : ((m < 2 ^ bits width) × (n < 2 ^ bits width)) ⊎ IsAny o a b → AllowsAll (flags (bits width) o a b f) now
        by (inl both) = flags_hold lane world (bits width) o a b f (width_fits (bits width) (width_of width)) (done_by both.0 both.1) is
        by (inr any) =
            after_allows (flags_out (bits width) o b (operands (bits width) o a b f)) f before now allowed
            (subst (λ x. AreAfter (flags_out (bits width) o b x) before now) (sym (operands_any lane world n (bits width) o a b f any)) unknown)
          where
            unknown : AreAfter (unknown_flags (bits width) o b) before now
            unknown = unknown_covers (bits width) m n before.cf before now o b is count_is after

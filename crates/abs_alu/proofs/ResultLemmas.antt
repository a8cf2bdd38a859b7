-- The value and the flags that an operation gives hold what the processor gives.

use Rattle.std.proofs.Common.{◌≡◌, ℕ, ◌-◌, ◌^◌, ◌<◌, ◌≤◌, inl, inr, Bool, true, false, cond, Option, Some, None, refl, sym, ◌∙◌, ap, subst, arith, lit<}
use Rattle.std.proofs.lemmas.Bool.{cond-true}
use Rattle.si_bits.specs.Concrete as concrete
use Rattle.si_bits.specs.Operations.{up_to}
use Rattle.si_bits.proofs.MemberLemmas.{member-up_to}
use Rattle.ia32_types.specs.declared.Flag.TheVariants.{Cf, Df}
use Rattle.ia32_types.specs.declared.Op.{Op}
use Rattle.ia32_types.specs.declared.Op.TheVariants as op
use Rattle.ia32_types.specs.Sets.{has_flag}
use Rattle.ia32_semantics.specs.Alu.{alu_value, alu_flags}
use Rattle.ia32_semantics.specs.Shift.{shift_value, shift_by}
use Rattle.ia32_semantics.specs.declared.flags.FlagsOut.{FlagsOut}
use Rattle.ia32_alu.specs.Widths.{IsWidth}
use Rattle.vset.specs.declared.facts.AbsFlags.{AbsFlags}
use Rattle.vset.specs.Members.{HasValue}
use Rattle.vset.specs.Values.{Values, Top, CanonicalValues}
use Rattle.vset.specs.World.{World}
use Rattle.abs_alu.specs.declared.operands.Arguments.{Arguments}
use Rattle.abs_alu.specs.Computed.{is_computed, computed, computed_flags}
use Rattle.abs_alu.specs.Flags.{is_shift, flags_out}
use Rattle.abs_alu.specs.Operands.{takes_second, takes_carry, known, sure, known_carry, with_second, operands}
use Rattle.abs_alu.specs.Results.{computed_or, wide, value, flags}
use Rattle.abs_alu.specs.Runs.{Allows, AllowsAll, AreAfter, IsDone, given}
use Rattle.abs_alu.specs.Words.{numbers, number, words}
use Rattle.abs_alu.proofs.ComputedLemmas.{computed_below}
use Rattle.abs_alu.proofs.FlagLemmas.{after_allows, direction_stays}
use Rattle.abs_alu.proofs.NumberLemmas.{numbers_hold, and_within, test_within, or_within, xor_within, mul_within, imul_within, shifted_hold, shl_moved, shr_moved, sar_moved}
use Rattle.abs_alu.proofs.OpLemmas.{each_op}
use Rattle.abs_alu.proofs.SumLemmas.{add_holds, sub_holds, inc_holds, dec_holds, neg_holds, not_holds, adc_holds, sbb_holds}
use Rattle.abs_alu.proofs.WordLemmas.{numbers_has, number_has, known_is}
use Rattle.abs_alu.proofs.WrittenLemmas.{unknown_covers}

-- -- Known operands are the operands

module _ (w m n s : ℕ) (c d : Bool) where
  abbrev Same : Op → Type 0
  Same o = (takes_second o ≡ true → s ≡ n) → (takes_carry o ≡ true → d ≡ c) → (computed w o m s d ≡ computed w o m n c) × (computed_flags w o m s d ≡ computed_flags w o m n c)

  same_computed : (o : Op) → is_computed o ≡ true → Same o
  unfolding takes_second takes_carry computed computed_flags alu_value alu_flags
  same_computed =
      each_op Same
      (λ h g. (ap (λ v. computed w op.Add m v d) (h refl), ap (λ v. computed_flags w op.Add m v d) (h refl)))
      (λ h g. (ap (λ v. computed w op.Or m v d) (h refl), ap (λ v. computed_flags w op.Or m v d) (h refl)))
      (λ h g. (ap (λ v. computed w op.Adc m v d) (h refl) ∙ ap (λ v. computed w op.Adc m n v) (g refl), ap (λ v. computed_flags w op.Adc m v d) (h refl) ∙ ap (λ v. computed_flags w op.Adc m n v) (g refl)))
      (λ h g. (ap (λ v. computed w op.Sbb m v d) (h refl) ∙ ap (λ v. computed w op.Sbb m n v) (g refl), ap (λ v. computed_flags w op.Sbb m v d) (h refl) ∙ ap (λ v. computed_flags w op.Sbb m n v) (g refl)))
      (λ h g. (ap (λ v. computed w op.And m v d) (h refl), ap (λ v. computed_flags w op.And m v d) (h refl)))
      (λ h g. (ap (λ v. computed w op.Sub m v d) (h refl), ap (λ v. computed_flags w op.Sub m v d) (h refl)))
      (λ h g. (ap (λ v. computed w op.Xor m v d) (h refl), ap (λ v. computed_flags w op.Xor m v d) (h refl)))
      (λ h g. (ap (λ v. computed w op.Cmp m v d) (h refl), ap (λ v. computed_flags w op.Cmp m v d) (h refl)))
      (λ h g. (ap (λ v. computed w op.Test m v d) (h refl), ap (λ v. computed_flags w op.Test m v d) (h refl)))
      (λ h g. (refl, refl))
      (λ h g. (refl, refl))
      (λ h g. (refl, refl))
      (λ h g. (refl, refl))
      (λ h g. (ap (λ v. computed w op.Mul m v d) (h refl), ap (λ v. computed_flags w op.Mul m v d) (h refl)))
      (λ h g. (ap (λ v. computed w op.Imul m v d) (h refl), ap (λ v. computed_flags w op.Imul m v d) (h refl)))
      (λ h g. (ap (λ v. computed w op.Shl m v d) (h refl), ap (λ v. computed_flags w op.Shl m v d) (h refl)))
      (λ h g. (ap (λ v. computed w op.Shr m v d) (h refl), ap (λ v. computed_flags w op.Shr m v d) (h refl)))
      (λ h g. (ap (λ v. computed w op.Sar m v d) (h refl), ap (λ v. computed_flags w op.Sar m v d) (h refl)))
      (λ h g. (ap (λ v. computed w op.Rol m v d) (h refl), ap (λ v. computed_flags w op.Rol m v d) (h refl)))
      (λ h g. (ap (λ v. computed w op.Ror m v d) (h refl), ap (λ v. computed_flags w op.Ror m v d) (h refl)))

module _ (lane : ℕ) (world : World) (w : ℕ) (o : Op) (a b : Values) (f : AbsFlags) (fits : 2 ^ w ≤ 4294967296) (r : IsDone lane world w o a b f) where
  first_low : r.first < 4294967296
  first_low = let lt = r.first_below in omega arith

  second_low : r.second < 4294967296
  second_low = let lt = r.second_below in omega arith

  second_is : takes_second o ≡ true → (k : ℕ) → known w b ≡ Some k → k ≡ r.second
  second_is takes k is = known_is lane world r.second second_low w b k is (r.second_held takes)

  carry_is : (c d : Bool) → known_carry f ≡ Some d → Allows f Cf c → d ≡ c
  unfolding known_carry
  carry_is c d is allowed = by_flags (has_flag f.zero Cf) (has_flag f.one Cf) c is (allows_is c allowed)
    where
      allows_is : (c : Bool) → Allows f Cf c → cond c (has_flag f.one Cf) (has_flag f.zero Cf) ≡ true
      allows_is true h = h
      allows_is false h = h

      by_flags : (clear set c : Bool) → sure clear set ≡ Some d → cond c set clear ≡ true → d ≡ c
      by_flags true true c is h = cc
      by_flags false false c is h = cc
      by_flags true false true is h = cc
      by_flags true false false is h = cc
      by_flags false true true is h = cc
      by_flags false true false is h = cc

  -- each operand that is taken is the word or the flag
  record AreTheirs (x : Arguments) : Type 0 where
    first : x.first ≡ r.first
    second : takes_second o ≡ true → x.second ≡ r.second
    carry : takes_carry o ≡ true → x.carry ≡ r.before.cf

  theirs : (x : Arguments) → operands w o a b f ≡ Some x → AreTheirs x
  unfolding operands
  theirs x e =
      by_options (known w a) (cond (takes_second o) (known w b) (Some 0)) (cond (takes_carry o) (known_carry f) (Some false)) e
      (λ k is. known_is lane world r.first first_low w a k is r.first_held)
      (λ takes k is. second_is takes k (sym (cond-true (takes_second o) (known w b) (Some 0) takes) ∙ is))
      (λ takes d is. carry_is r.before.cf d (sym (cond-true (takes_carry o) (known_carry f) (Some false) takes) ∙ is) r.flags_allowed.0)
    where
      by_options : (p q : Option ℕ) (t : Option Bool) → with_second p q t ≡ Some x → ((k : ℕ) → p ≡ Some k → k ≡ r.first) → (takes_second o ≡ true → (k : ℕ) → q ≡ Some k → k ≡ r.second) → (takes_carry o ≡ true → (d : Bool) → t ≡ Some d → d ≡ r.before.cf) → AreTheirs x
      by_options None q t e hp hq ht = cc
      by_options (Some p) None t e hp hq ht = cc
      by_options (Some p) (Some q) None e hp hq ht = cc
      by_options (Some p) (Some q) (Some t) e hp hq ht =
          let is : record { first = p; second = q; carry = t } ≡ x = cc in
          record {
            first = ap (λ (y : Arguments). y.first) (sym is) ∙ hp p refl;
            second = λ takes. ap (λ (y : Arguments). y.second) (sym is) ∙ hq takes q refl;
            carry = λ takes. ap (λ (y : Arguments). y.carry) (sym is) ∙ ht takes t refl;
          }

  both_same : (x : Arguments) → is_computed o ≡ true → operands w o a b f ≡ Some x → (computed w o x.first x.second x.carry ≡ given r) × (computed_flags w o x.first x.second x.carry ≡ computed_flags w o r.first r.second r.before.cf)
  both_same x is e =
      let t = theirs x e in
      let same = same_computed w r.first r.second x.second r.before.cf x.carry o is t.second t.carry in
      (ap (λ v. computed w o v x.second x.carry) t.first ∙ same.0, ap (λ v. computed_flags w o v x.second x.carry) t.first ∙ same.1)

  -- -- Flags

  shift_takes : is_computed o ≡ true → is_shift o ≡ true → takes_second o ≡ true
  unfolding takes_second
  shift_takes =
      each_op (λ o. is_shift o ≡ true → takes_second o ≡ true)
      (λ e. refl) (λ e. refl) (λ e. refl) (λ e. refl) (λ e. refl) (λ e. refl) (λ e. refl) (λ e. refl) (λ e. refl)
      (λ e. cc) (λ e. cc) (λ e. cc) (λ e. cc)
      (λ e. refl) (λ e. refl) (λ e. refl) (λ e. refl) (λ e. refl) (λ e. refl) (λ e. refl) o

  out_holds : is_computed o ≡ true → AreAfter (flags_out w o b (operands w o a b f)) r.before r.now
  out_holds is = by_operands (operands w o a b f) refl
    where
      by_operands : (q : Option Arguments) → operands w o a b f ≡ q → AreAfter (flags_out w o b q) r.before r.now
      by_operands None e = unknown_covers w r.first r.second r.before.cf r.before r.now o b is (λ shift. second_is (shift_takes is shift)) r.flags_after
      by_operands (Some x) e = subst (λ (out : FlagsOut). AreAfter out r.before r.now) (sym (both_same x is e).1) r.flags_after

  pub flags_hold : is_computed o ≡ true → AllowsAll (flags w o a b f) r.now
  unfolding flags
  flags_hold is = after_allows (flags_out w o b (operands w o a b f)) f r.before r.now r.flags_allowed (out_holds is)

  -- -- Values

  computed_holds : (other : Values) → is_computed o ≡ true → given r < 4294967296 → HasValue lane world (given r) other → HasValue lane world (given r) (computed_or other w o (operands w o a b f))
  computed_holds other is lt h = by_operands (operands w o a b f) refl
    where
      by_operands : (q : Option Arguments) → operands w o a b f ≡ q → HasValue lane world (given r) (computed_or other w o q)
      by_operands None e = h
      by_operands (Some x) e =
          subst (λ v. HasValue lane world (given r) (number (concrete.number v))) (sym (both_same x is e).0) (number_has lane world (given r) lt)

-- -- At 32 bits

module _ (lane : ℕ) (world : World) (a b : Values) (f : AbsFlags) (ca : CanonicalValues a) (cb : CanonicalValues b) (m n : ℕ) (c : Bool) (lm : m < 4294967296) (ln : n < 4294967296) (ha : HasValue lane world m a) (allowed : Allows f Cf c) where
  -- what is computed is among the results, but for rotates
  abbrev Holds : Op → Type 0
  Holds o = (takes_second o ≡ true → HasValue lane world n b) → HasValue lane world (computed 32 o m n c) (words o a b f)

  low : (o : Op) → is_computed o ≡ true → computed 32 o m n c < 4294967296
  low o is = computed_below 32 (inr (inr refl)) m n c lm ln o is

  words_hold : (o : Op) → is_computed o ≡ true → Holds o
  unfolding words is_computed takes_second computed alu_value shift_value shift_by
  words_hold =
      each_op Holds
      (λ h. add_holds lane world a b ca cb m n lm ln ha (h refl))
      (λ h. numbers_hold lane world a b ca cb m n lm ln ha (h refl) op.Or _ (low op.Or refl) (or_within lane world a b ca cb m n lm ln ha (h refl)))
      (λ h. adc_holds lane world a b ca cb m n lm ln ha f c allowed (h refl))
      (λ h. sbb_holds lane world a b ca cb m n lm ln ha f c allowed (h refl))
      (λ h. numbers_hold lane world a b ca cb m n lm ln ha (h refl) op.And _ (low op.And refl) (and_within lane world a b ca cb m n lm ln ha (h refl)))
      (λ h. sub_holds lane world a b ca cb m n lm ln ha (h refl))
      (λ h. numbers_hold lane world a b ca cb m n lm ln ha (h refl) op.Xor _ (low op.Xor refl) (xor_within lane world a b ca cb m n lm ln ha (h refl)))
      (λ h. sub_holds lane world a b ca cb m n lm ln ha (h refl))
      (λ h. numbers_hold lane world a b ca cb m n lm ln ha (h refl) op.Test _ (low op.Test refl) (test_within lane world a b ca cb m n lm ln ha (h refl)))
      (λ h. inc_holds lane world a b ca cb m n lm ln ha)
      (λ h. dec_holds lane world a b ca cb m n lm ln ha)
      (λ h. not_holds lane world a b ca cb m n lm ln ha)
      (λ h. neg_holds lane world a b ca cb m n lm ln ha)
      (λ h. numbers_hold lane world a b ca cb m n lm ln ha (h refl) op.Mul _ (low op.Mul refl) (mul_within lane world a b ca cb m n lm ln ha (h refl)))
      (λ h. numbers_hold lane world a b ca cb m n lm ln ha (h refl) op.Imul _ (low op.Imul refl) (imul_within lane world a b ca cb m n lm ln ha (h refl)))
      (λ h. shifted_hold lane world a b ca cb m n lm ln ha (h refl) op.Shl _ (low op.Shl refl) (shl_moved lane world a b ca cb m n lm ln ha (h refl)))
      (λ h. shifted_hold lane world a b ca cb m n lm ln ha (h refl) op.Shr _ (low op.Shr refl) (shr_moved lane world a b ca cb m n lm ln ha (h refl)))
      (λ h. shifted_hold lane world a b ca cb m n lm ln ha (h refl) op.Sar _ (low op.Sar refl) (sar_moved lane world a b ca cb m n lm ln ha (h refl)))
      (λ h. tt)
      (λ h. tt)

module _ (lane : ℕ) (world : World) (a b : Values) (f : AbsFlags) (ca : CanonicalValues a) (cb : CanonicalValues b) where
  given_below : (w : ℕ) (width : IsWidth w) (o : Op) (r : IsDone lane world w o a b f) → is_computed o ≡ true → given r < 2 ^ w
  given_below w width o r is = computed_below w width r.first r.second r.before.cf r.first_below r.second_below o is

  abbrev IsWide : Op → Type 0
  IsWide o = (r : IsDone lane world 32 o a b f) → HasValue lane world (given r) (words o a b f) → HasValue lane world (given r) (wide o a b f)

  wide_of_words : (o : Op) → is_computed o ≡ true → IsWide o
  unfolding is_computed
  wide_of_words =
      each_op IsWide
      (λ r h. h) (λ r h. h) (λ r h. h) (λ r h. h) (λ r h. h) (λ r h. h) (λ r h. h) (λ r h. h) (λ r h. h) (λ r h. h)
      (λ r h. h) (λ r h. h) (λ r h. h) (λ r h. h) (λ r h. h) (λ r h. h) (λ r h. h) (λ r h. h)
      (λ r h. computed_holds lane world 32 op.Rol a b f (omega arith) r Top refl (given_below 32 (inr (inr refl)) op.Rol r refl) tt)
      (λ r h. computed_holds lane world 32 op.Ror a b f (omega arith) r Top refl (given_below 32 (inr (inr refl)) op.Ror r refl) tt)

  wide_holds : (o : Op) (r : IsDone lane world 32 o a b f) → is_computed o ≡ true → HasValue lane world (given r) (wide o a b f)
  wide_holds o r is =
      wide_of_words o is r (words_hold lane world a b f ca cb r.first r.second r.before.cf r.first_below r.second_below r.first_held r.flags_allowed.0 o is r.second_held)

  -- at 8 and 16 bits
  narrow_holds : (w : ℕ) (width : IsWidth w) (o : Op) (r : IsDone lane world w o a b f) → w < 32 → 2 ^ w ≤ 65536 → is_computed o ≡ true → HasValue lane world (given r) (computed_or (numbers (up_to (2 ^ w - 1))) w o (operands w o a b f))
  narrow_holds w width o r lt few is =
      let below : given r < 2 ^ w = given_below w width o r is in
      computed_holds lane world w o a b f (omega arith) r (numbers (up_to (2 ^ w - 1))) is (omega arith)
      (numbers_has lane world (given r) (omega arith) (up_to (2 ^ w - 1)) (member-up_to (2 ^ w - 1) (given r) (omega arith) (omega arith)))

  abbrev Valued : ℕ → Type 0
  Valued w = (o : Op) (r : IsDone lane world w o a b f) → is_computed o ≡ true → HasValue lane world (given r) (value w o a b f)

  valued_8 : Valued 8
  unfolding value
  valued_8 o r is = narrow_holds 8 (inl refl) o r (lit< tt) (omega arith) is

  valued_16 : Valued 16
  unfolding value
  valued_16 o r is = narrow_holds 16 (inr (inl refl)) o r (lit< tt) (omega arith) is

  valued_32 : Valued 32
  unfolding value
  valued_32 o r is = wide_holds o r is

  pub value_holds : (w : ℕ) → IsWidth w → (o : Op) (r : IsDone lane world w o a b f) → is_computed o ≡ true → HasValue lane world (given r) (value w o a b f)
  value_holds w (inl e) = subst Valued (sym e) valued_8
  value_holds w (inr (inl e)) = subst Valued (sym e) valued_16
  value_holds w (inr (inr e)) = subst Valued (sym e) valued_32

pub width_fits : (w : ℕ) → IsWidth w → 2 ^ w ≤ 4294967296
width_fits w (inl e) = subst (λ v. 2 ^ v ≤ 4294967296) (sym e) (omega arith)
width_fits w (inr (inl e)) = subst (λ v. 2 ^ v ≤ 4294967296) (sym e) (omega arith)
width_fits w (inr (inr e)) = subst (λ v. 2 ^ v ≤ 4294967296) (sym e) (omega arith)

pub flags_keep_direction : (w : ℕ) (o : Op) (a b : Values) (f : AbsFlags) (v : Bool) → Allows f Df v → Allows (flags w o a b f) Df v
unfolding flags
flags_keep_direction w o a b f v may = direction_stays (flags_out w o b (operands w o a b f)) f v may

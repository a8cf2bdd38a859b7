-- Sums and differences of 32 bits, with CF too.

use Rattle.std.proofs.Common.{◌≡◌, ℕ, ◌+◌, ◌-◌, ◌%◌, ◌<◌, Bool, true, false, cond, refl, subst, pos, negsuc, arith, lit<}
use Rattle.std.proofs.lemmas.Int.{ints}
use Rattle.std.proofs.Math.Nat.{mod-add-mod}
use Rattle.si_bits.proofs.SignLemmas.{number-low, number-high}
use Rattle.ia32_types.specs.declared.Flag.TheVariants.{Cf}
use Rattle.ia32_types.specs.declared.Op.TheVariants as op
use Rattle.ia32_types.specs.Sets.{has_flag}
use Rattle.ia32_semantics.specs.Alu.{sum, difference, carry_value}
use Rattle.vset.specs.declared.facts.AbsFlags.{AbsFlags}
use Rattle.vset.specs.Members.{HasValue}
use Rattle.vset.specs.Operations.{add, sub}
use Rattle.vset.specs.Values.{Values, CanonicalValues}
use Rattle.vset.specs.World.{World}
use Rattle.vset.proofs.MemberLemmas.{join_has_left, join_has_right}
use Rattle.vset.proofs.SumLemmas.{add_has, sub_has}
use Rattle.abs_alu.specs.Runs.{Allows}
use Rattle.abs_alu.specs.Words.{number, by_carry, carried, with_carries}
use Rattle.abs_alu.proofs.CanonicalLemmas.{number_canonical, add_values_canonical, sub_values_canonical}
use Rattle.abs_alu.proofs.WordLemmas.{number_has}

module _ (lane : ℕ) (world : World) where
  -- small numbers
  natural_has : (k : ℕ) → k < 2147483648 → HasValue lane world k (number (pos k))
  natural_has k lt = subst (λ z. HasValue lane world k (number z)) (number-low k lt) (number_has lane world k (omega arith))

  all_ones : HasValue lane world 4294967295 (number (negsuc 0))
  all_ones = subst (λ z. HasValue lane world 4294967295 (number z)) (number-high 4294967295 0 (lit< tt) refl) (number_has lane world 4294967295 (lit< tt))

  natural_form : (k : ℕ) → k < 2147483648 → CanonicalValues (number (pos k))
  natural_form k lt = number_canonical (pos k) (omega (arith, ints))

  ones_form : CanonicalValues (number (negsuc 0))
  ones_form = number_canonical (negsuc 0) (omega (arith, ints))

  module _ (a b : Values) (ca : CanonicalValues a) (cb : CanonicalValues b) (m n : ℕ) (lm : m < 4294967296) (ln : n < 4294967296) (ha : HasValue lane world m a) where
    pub add_holds : HasValue lane world n b → HasValue lane world (sum 32 m n false) (add a b)
    unfolding sum
    add_holds hb =
        let e : m + n ≡ m + n + 0 = omega arith in
        subst (λ v. HasValue lane world (v % 4294967296) (add a b)) e (add_has lane world m n a b ln ca cb ha hb)

    pub sub_holds : HasValue lane world n b → HasValue lane world (difference 32 m n false) (sub a b)
    unfolding difference
    sub_holds hb =
        let e : m + 4294967296 - n ≡ m + 4294967296 - n - 0 = omega arith in
        subst (λ v. HasValue lane world (v % 4294967296) (sub a b)) e (sub_has lane world m n a b ln ca cb ha hb)

    pub inc_holds : HasValue lane world (sum 32 m 1 false) (add a (number (pos 1)))
    unfolding sum
    inc_holds =
        let e : m + 1 ≡ m + 1 + 0 = omega arith in
        subst (λ v. HasValue lane world (v % 4294967296) (add a (number (pos 1)))) e (add_has lane world m 1 a (number (pos 1)) (lit< tt) ca (natural_form 1 (lit< tt)) ha (natural_has 1 (lit< tt)))

    pub dec_holds : HasValue lane world (difference 32 m 1 false) (sub a (number (pos 1)))
    unfolding difference
    dec_holds =
        let e : m + 4294967296 - 1 ≡ m + 4294967296 - 1 - 0 = omega arith in
        subst (λ v. HasValue lane world (v % 4294967296) (sub a (number (pos 1)))) e (sub_has lane world m 1 a (number (pos 1)) (lit< tt) ca (natural_form 1 (lit< tt)) ha (natural_has 1 (lit< tt)))

    pub neg_holds : HasValue lane world (difference 32 0 m false) (sub (number (pos 0)) a)
    unfolding difference
    neg_holds =
        let e : 0 + 4294967296 - m ≡ 0 + 4294967296 - m - 0 = omega arith in
        subst (λ v. HasValue lane world (v % 4294967296) (sub (number (pos 0)) a)) e (sub_has lane world 0 m (number (pos 0)) a lm (natural_form 0 (lit< tt)) ca (natural_has 0 (lit< tt)) ha)

    pub not_holds : HasValue lane world (4294967296 - 1 - m) (sub (number (negsuc 0)) a)
    not_holds =
        let e : (4294967295 + 4294967296 - m) % 4294967296 ≡ 4294967296 - 1 - m = omega arith in
        subst (λ v. HasValue lane world v (sub (number (negsuc 0)) a)) e (sub_has lane world 4294967295 m (number (negsuc 0)) a lm ones_form ca all_ones ha)

    -- -- With a carry

    adc_carried : (k : ℕ) → k < 2147483648 → HasValue lane world n b → HasValue lane world ((m + n + k) % 4294967296) (carried op.Adc a b (pos k))
    adc_carried k lt hb =
        subst (λ v. HasValue lane world v (carried op.Adc a b (pos k))) (mod-add-mod (m + n) 4294967296 k)
        (add_has lane world ((m + n) % 4294967296) k (add a b) (number (pos k)) (omega arith) (add_values_canonical a b ca cb) (natural_form k lt) (add_has lane world m n a b ln ca cb ha hb) (natural_has k lt))

    sbb_carried : (k : ℕ) → k < 2 → HasValue lane world n b → HasValue lane world ((m + 4294967296 - n - k) % 4294967296) (carried op.Sbb a b (pos k))
    sbb_carried k lt hb =
        let e : ((m + 4294967296 - n) % 4294967296 + 4294967296 - k) % 4294967296 ≡ (m + 4294967296 - n - k) % 4294967296 = omega arith in
        subst (λ v. HasValue lane world v (carried op.Sbb a b (pos k))) e
        (sub_has lane world ((m + 4294967296 - n) % 4294967296) k (sub a b) (number (pos k)) (omega arith) (sub_values_canonical a b ca cb) (natural_form k (omega arith)) (sub_has lane world m n a b ln ca cb ha hb) (natural_has k (omega arith)))

    adc_carry : (c : Bool) → HasValue lane world n b → HasValue lane world (sum 32 m n c) (carried op.Adc a b (pos (carry_value c)))
    unfolding sum
    adc_carry true hb = adc_carried 1 (lit< tt) hb
    adc_carry false hb = adc_carried 0 (lit< tt) hb

    sbb_carry : (c : Bool) → HasValue lane world n b → HasValue lane world (difference 32 m n c) (carried op.Sbb a b (pos (carry_value c)))
    unfolding difference
    sbb_carry true hb = sbb_carried 1 (lit< tt) hb
    sbb_carry false hb = sbb_carried 0 (lit< tt) hb

    adc_form : (k : ℕ) → k < 2147483648 → CanonicalValues (carried op.Adc a b (pos k))
    adc_form k lt = add_values_canonical (add a b) (number (pos k)) (add_values_canonical a b ca cb) (natural_form k lt)

    sbb_form : (k : ℕ) → k < 2147483648 → CanonicalValues (carried op.Sbb a b (pos k))
    sbb_form k lt = sub_values_canonical (sub a b) (number (pos k)) (sub_values_canonical a b ca cb) (natural_form k lt)

    -- what the carry that is gives is among what the carries that may be give
    carry_has : (c clear set : Bool) (x y : Values) → CanonicalValues x → CanonicalValues y → cond c set clear ≡ true → (v : ℕ) → HasValue lane world v (cond c y x) → HasValue lane world v (by_carry clear set x y)
    carry_has true true true x y cx cy may v h = join_has_right lane world v x y cx cy h
    carry_has true true false x y cx cy may v h = cc
    carry_has true false true x y cx cy may v h = h
    carry_has true false false x y cx cy may v h = cc
    carry_has false true true x y cx cy may v h = join_has_left lane world v x y cx cy h
    carry_has false true false x y cx cy may v h = h
    carry_has false false true x y cx cy may v h = cc
    carry_has false false false x y cx cy may v h = cc

    may : (f : AbsFlags) (c : Bool) → Allows f Cf c → cond c (has_flag f.one Cf) (has_flag f.zero Cf) ≡ true
    may f true h = h
    may f false h = h

    pub adc_holds : (f : AbsFlags) (c : Bool) → Allows f Cf c → HasValue lane world n b → HasValue lane world (sum 32 m n c) (with_carries op.Adc a b f)
    unfolding with_carries
    adc_holds f c allowed hb =
        carry_has c (has_flag f.zero Cf) (has_flag f.one Cf) (carried op.Adc a b (pos 0)) (carried op.Adc a b (pos 1)) (adc_form 0 (lit< tt)) (adc_form 1 (lit< tt)) (may f c allowed)
        (sum 32 m n c) (by_value c)
      where
        by_value : (c : Bool) → HasValue lane world (sum 32 m n c) (cond c (carried op.Adc a b (pos 1)) (carried op.Adc a b (pos 0)))
        by_value true = adc_carry true hb
        by_value false = adc_carry false hb

    pub sbb_holds : (f : AbsFlags) (c : Bool) → Allows f Cf c → HasValue lane world n b → HasValue lane world (difference 32 m n c) (with_carries op.Sbb a b f)
    unfolding with_carries
    sbb_holds f c allowed hb =
        carry_has c (has_flag f.zero Cf) (has_flag f.one Cf) (carried op.Sbb a b (pos 0)) (carried op.Sbb a b (pos 1)) (sbb_form 0 (lit< tt)) (sbb_form 1 (lit< tt)) (may f c allowed)
        (difference 32 m n c) (by_value c)
      where
        by_value : (c : Bool) → HasValue lane world (difference 32 m n c) (cond c (carried op.Sbb a b (pos 1)) (carried op.Sbb a b (pos 0)))
        by_value true = sbb_carry true hb
        by_value false = sbb_carry false hb

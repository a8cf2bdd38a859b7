-- Values of narrower sources, and signs.
use Rattle.std.proofs.Common.{◌≡◌, ℕ, suc, ◌+◌, ◌-◌, ◌%◌, ◌^◌, ◌<◌, ◌≤◌, ◌&&◌, Bool, true, false, cond, Option, Some, None, refl, sym, ◌∙◌, ap, subst, pos, negsuc, ◌≤ℤ◌, ◌<ℤ◌, arith, lit<}
use Rattle.std.specs.Prelude.{nat_le, nat_lt, int_le, int_lt}
use Rattle.std.proofs.lemmas.Int.{ints}
use Rattle.std.proofs.Math.Nat.{mod-eq_of_lt}
use Rattle.std.proofs.lemmas.Bool.{lt-ltb, and_parts, ltb-true, ltb-false, leb-true, leb-false, le-leb, lt-leb}
use Rattle.ia32_types.specs.declared.Width.{Width}
use Rattle.ia32_types.specs.declared.Width.TheVariants.{B8, W16, D32}
use Rattle.ia32_types.specs.Operands.{IsWide, IsNarrow}
use Rattle.ia32_semantics.specs.Alu.{sign}
use Rattle.ia32_semantics.specs.Operands.{bits}
use Rattle.ia32_semantics.specs.Product.{extended}
use Rattle.si_bits.specs.Concrete as concrete
use Rattle.si_bits.specs.Operations.{sign_extend}
use Rattle.si_bits.proofs.MemberLemmas.{member-dense}
use Rattle.si_bits.proofs.PartLemmas.{member-sign_extend}
use Rattle.si_bits.proofs.ReadingLemmas.{extension_of-number}
use Rattle.si_bits.proofs.SignLemmas.{number-low, number-high}
use Rattle.strided.specs.Interval.{Interval, IsMember}
use Rattle.strided.specs.Operations.{spaced}
use Rattle.strided.proofs.MemberLemmas.{int_le_true}
use Rattle.vset.specs.Values.{Values, Top, CanonicalValues, only_number}
use Rattle.vset.specs.World.{World}
use Rattle.vset.specs.Members.{HasValue}
use Rattle.abs_alu.specs.Operands.{known}
use Rattle.abs_alu.specs.Words.{numbers, number}
use Rattle.abs_alu.proofs.WordLemmas.{numbers_has, number_has, only_has, known_is}
use Rattle.abs_semantics.specs.Operands.{word_number, is_up_to}
use Rattle.alocs.proofs.CellLemmas.{int_lt_true}
use Rattle.abs_steps.specs.Results.{extended_within, sign_extended, extended_or_any, widened, either_sign, sign_of_numbers, sign_of}
use Rattle.step_soundness.proofs.WordLaws.{word_has, any_has}

-- which words are negative numbers
data Reading (n : ℕ) : Type 0 where
  natural : n < 2147483648 → concrete.number n ≡ pos n → Reading n
  negative : (k : ℕ) → 2147483648 ≤ n → concrete.number n ≡ negsuc k → Reading n

reading : (n : ℕ) → n < 4294967296 → Reading n
reading n lt = by (nat_lt n 2147483648) refl
  where
    by : (b : Bool) → nat_lt n 2147483648 ≡ b → Reading n
    by true e = let low : n < 2147483648 = ltb-true n 2147483648 e in natural low (number-low n low)
    by false e = let high : 2147483648 ≤ n = ltb-false n 2147483648 e in negative (4294967295 - n) high (number-high n (4294967295 - n) (omega arith) (omega arith))

module _ (lane : ℕ) (world : World) (v : Values) (n : ℕ) (has : HasValue lane world n v) where
  -- -- Signs

  module _ (lt : n < 4294967296) where
    minus_one : HasValue lane world 4294967295 (number (negsuc 0))
    minus_one = subst (λ z. HasValue lane world 4294967295 (number z)) (number-high 4294967295 0 (lit< tt) refl) (number_has lane world 4294967295 (lit< tt))

    zero_has : HasValue lane world 0 (number (pos 0))
    zero_has = subst (λ z. HasValue lane world 0 (number z)) (number-low 0 (lit< tt)) (number_has lane world 0 (lit< tt))

    either_has : (b : Bool) → HasValue lane world (cond b 4294967295 0) either_sign
    either_has true =
        numbers_has lane world 4294967295 (lit< tt) (spaced 1 (negsuc 0) (pos 0))
        (subst (λ z. IsMember z (spaced 1 (negsuc 0) (pos 0))) (sym (number-high 4294967295 0 (lit< tt) refl)) (member-dense (negsuc 0) (pos 0) (negsuc 0) (omega (arith, ints)) (omega (arith, ints))))
    either_has false =
        numbers_has lane world 0 (lit< tt) (spaced 1 (negsuc 0) (pos 0))
        (subst (λ z. IsMember z (spaced 1 (negsuc 0) (pos 0))) (sym (number-low 0 (lit< tt))) (member-dense (negsuc 0) (pos 0) (pos 0) (omega (arith, ints)) (omega (arith, ints))))

    sign_is : (b : Bool) → nat_le 2147483648 n ≡ b → sign 32 n ≡ b
    unfolding sign
    sign_is b e = e

    sign_by : (o : Option Interval) → only_number v ≡ o → HasValue lane world (cond (sign 32 n) 4294967295 0) (sign_of_numbers o)
    sign_by None e = either_has (sign 32 n)
    sign_by (Some x) e = by (int_le (pos 0) x.lo) refl (int_lt x.hi (pos 0)) refl (reading n lt)
      where
        member : IsMember (concrete.number n) x
        member = only_has lane world n lt v x e has

        by : (low : Bool) → int_le (pos 0) x.lo ≡ low → (high : Bool) → int_lt x.hi (pos 0) ≡ high → Reading n
            → HasValue lane world (cond (sign 32 n) 4294967295 0) (cond low (number (pos 0)) (cond high (number (negsuc 0)) either_sign))
        by true is high e (natural low z) = subst (λ b. HasValue lane world (cond b 4294967295 0) (number (pos 0))) (sym (sign_is false (lt-leb 2147483648 n low))) zero_has
        by true is high e (negative k above z) =
            let m = member in let reached = m.reached in let l : pos 0 ≤ℤ x.lo = int_le_true (pos 0) x.lo is in
            absurd (omega (arith, ints))
        by false is true e (natural low z) =
            let m = member in let range = m.in_range in let h : x.hi <ℤ pos 0 = int_lt_true x.hi (pos 0) e in
            absurd (omega (arith, ints))
        by false is true e (negative k above z) = subst (λ b. HasValue lane world (cond b 4294967295 0) (number (negsuc 0))) (sym (sign_is true (le-leb 2147483648 n above))) minus_one
        by false is false e r = either_has (sign 32 n)

    pub sign_has : HasValue lane world (cond (sign 32 n) 4294967295 0) (sign_of v)
    unfolding sign_of
    sign_has = sign_by (only_number v) refl

  -- -- Extensions

  module _ (form : CanonicalValues v) where
    -- a byte or a word at 32 bits
    extended_is : (w : ℕ) → 0 < w → 2 ^ w ≤ 65536 → n < 2 ^ w → extended true w 32 n ≡ concrete.extended_word w n
    unfolding extended concrete.extended_word sign
    extended_is w some few lt = by (nat_le (2 ^ (w - 1)) n) refl
      where
        by : (b : Bool) → nat_le (2 ^ (w - 1)) n ≡ b → cond b (n + 4294967296 - 2 ^ w) n ≡ n % 2 ^ w + cond (nat_lt (n % 2 ^ w) (2 ^ (w - 1))) 0 (4294967296 - 2 ^ w)
        by true e =
            let plain : n % 2 ^ w ≡ n = mod-eq_of_lt lt in
            let high : 2 ^ (w - 1) ≤ n = leb-true (2 ^ (w - 1)) n e in
            let test : nat_lt (n % 2 ^ w) (2 ^ (w - 1)) ≡ false = ap (λ m. nat_lt m (2 ^ (w - 1))) plain ∙ lt-leb (suc n) (2 ^ (w - 1)) (omega arith) in
            let sum : n + 4294967296 - 2 ^ w ≡ n + (4294967296 - 2 ^ w) = omega arith in
            sum ∙ ap (λ m. m + (4294967296 - 2 ^ w)) (sym plain) ∙ ap (λ b. n % 2 ^ w + cond b 0 (4294967296 - 2 ^ w)) (sym test)
        by false e =
            let plain : n % 2 ^ w ≡ n = mod-eq_of_lt lt in
            let low : n < 2 ^ (w - 1) = leb-false (2 ^ (w - 1)) n e in
            let test : nat_lt (n % 2 ^ w) (2 ^ (w - 1)) ≡ true = ap (λ m. nat_lt m (2 ^ (w - 1))) plain ∙ lt-ltb n (2 ^ (w - 1)) low in
            let sum : n ≡ n + 0 = omega arith in
            sum ∙ ap (λ m. m + 0) (sym plain) ∙ ap (λ b. n % 2 ^ w + cond b 0 (4294967296 - 2 ^ w)) (sym test)

    extended_below : (w : ℕ) → 2 ^ w ≤ 65536 → n < 2 ^ w → extended true w 32 n < 4294967296
    unfolding extended
    extended_below w few lt = by (sign w n)
      where
        by : (b : Bool) → cond b (n + 4294967296 - 2 ^ w) n < 4294967296
        by true = omega arith
        by false = omega arith

    within_has : (w : ℕ) → 0 < w → w < 32 → 2 ^ w ≤ 65536 → n < 2 ^ w → (x : Interval) → only_number v ≡ Some x → HasValue lane world (extended true w 32 n) (extended_within w x)
    within_has w some small few lt x e = by (is_up_to (2 ^ w - 1) (Some x)) refl
      where
        by : (b : Bool) → is_up_to (2 ^ w - 1) (Some x) ≡ b → HasValue lane world (extended true w 32 n) (cond b (numbers (sign_extend w x)) Top)
        by false is = tt
        by true is =
            let both = and_parts (int_le (pos 0) x.lo) (int_le x.hi (pos (2 ^ w - 1))) is in
            let low : pos 0 ≤ℤ x.lo = int_le_true (pos 0) x.lo both.0 in
            let high : x.hi ≤ℤ pos (2 ^ w - 1) = int_le_true x.hi (pos (2 ^ w - 1)) both.1 in
            let same : concrete.extension_of w (concrete.number n) ≡ concrete.number (extended true w 32 n) = extension_of-number w n (omega arith) ∙ ap concrete.number (sym (extended_is w some few lt)) in
            numbers_has lane world (extended true w 32 n) (extended_below w few lt) (sign_extend w x)
            (subst (λ z. IsMember z (sign_extend w x)) same (member-sign_extend w x (concrete.number n) some small low (omega (arith, ints)) (only_has lane world n (omega arith) v x e has)))

    sign_extended_has : (from : Width) → IsNarrow from → n < 2 ^ bits from → (o : Option Interval) → only_number v ≡ o → HasValue lane world (extended true (bits from) 32 n) (sign_extended from o)
    sign_extended_has B8 narrow lt None e = tt
    sign_extended_has W16 narrow lt None e = tt
    sign_extended_has D32 narrow lt o e = absurd narrow
    sign_extended_has B8 narrow lt (Some x) e = within_has 8 (lit< tt) (lit< tt) (omega arith) lt x e
    sign_extended_has W16 narrow lt (Some x) e = within_has 16 (lit< tt) (lit< tt) (omega arith) lt x e

    -- at 16 bits
    word_below : (signed : Bool) (w : ℕ) → 2 ^ w ≤ 65536 → n < 2 ^ w → extended signed w 16 n < 65536
    unfolding extended
    word_below signed w few lt = by (signed && sign w n)
      where
        by : (b : Bool) → cond b (n + 65536 - 2 ^ w) n < 65536
        by true = omega arith
        by false = omega arith

    extended_or_any_has : (signed : Bool) (from : Width) → n < 4294967296 → extended signed (bits from) 16 n < 65536 → (o : Option ℕ) → ((k : ℕ) → o ≡ Some k → k ≡ n)
        → HasValue lane world (extended signed (bits from) 16 n) (extended_or_any signed from o)
    extended_or_any_has signed from lt below None is = any_has lane world W16 (extended signed (bits from) 16 n) below
    extended_or_any_has signed from lt below (Some k) is =
        subst (λ k. HasValue lane world (extended signed (bits from) 16 n) (word_number (extended signed (bits from) 16 k))) (sym (is k refl))
        (word_has lane world (extended signed (bits from) 16 n) (omega arith))

    pub widened_has : (signed : Bool) (from to : Width) → IsNarrow from → IsWide to → n < 2 ^ bits from → HasValue lane world (extended signed (bits from) (bits to) n) (widened signed from to v)
    unfolding widened extended
    widened_has signed from B8 narrow wide lt = absurd wide
    widened_has signed D32 to narrow wide lt = absurd narrow
    widened_has false B8 D32 narrow wide lt = has
    widened_has false W16 D32 narrow wide lt = has
    widened_has true B8 D32 narrow wide lt = sign_extended_has B8 narrow lt (only_number v) refl
    widened_has true W16 D32 narrow wide lt = sign_extended_has W16 narrow lt (only_number v) refl
    widened_has true B8 W16 narrow wide lt =
        extended_or_any_has true B8 (omega arith) (word_below true 8 (omega arith) lt) (known 8 v) (λ k e. known_is lane world n (omega arith) 8 v k e has)
    widened_has false B8 W16 narrow wide lt =
        extended_or_any_has false B8 (omega arith) (word_below false 8 (omega arith) lt) (known 8 v) (λ k e. known_is lane world n (omega arith) 8 v k e has)
    widened_has true W16 W16 narrow wide lt =
        extended_or_any_has true W16 (omega arith) (word_below true 16 (omega arith) lt) (known 16 v) (λ k e. known_is lane world n (omega arith) 16 v k e has)
    widened_has false W16 W16 narrow wide lt =
        extended_or_any_has false W16 (omega arith) (word_below false 16 (omega arith) lt) (known 16 v) (λ k e. known_is lane world n (omega arith) 16 v k e has)

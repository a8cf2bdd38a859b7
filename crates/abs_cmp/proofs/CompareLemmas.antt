-- What the flags of a comparison tell of the two words, and that each row keeps what its condition allows.

use Rattle.std.proofs.Common.{◌≡◌, ℕ, ◌+◌, ◌-◌, ◌/◌, ◌%◌, ◌==◌, ◌<◌, ◌≤◌, ◌&&◌, ◌||◌, Bool, true, false, not, ℤ, pos, refl, sym, ◌∙◌, ap, subst, ⊎_elim, arith}
use Rattle.std.specs.Prelude.{◌≤ℤ◌, ◌<ℤ◌, nat_lt}
use Rattle.std.proofs.lemmas.Bool.{cond_both, cond-true, cond-false, eqb-true, eqb-false, eq-eqb, ne_eqb, ltb-true, ltb-false, or_cases, or_parts, not-true, not-false}
use Rattle.std.proofs.lemmas.Int.{ints}
use Rattle.strided.specs.Concrete.{signed}
use Rattle.strided.specs.Interval.{Interval, IsMember, IsCanonical}
use Rattle.ia32_types.specs.declared.Op.TheVariants as op
use Rattle.ia32_semantics.specs.declared.flags.Flags.{Flags}
use Rattle.ia32_semantics.specs.declared.flags.FlagsOut.{FlagsOut}
use Rattle.ia32_semantics.specs.declared.flags.FlagOut.{FlagOut}
use Rattle.ia32_semantics.specs.declared.flags.FlagOut.TheVariants as flag
use Rattle.ia32_semantics.specs.Alu.{alu_flags, difference, difference_flags, difference_borrows, difference_overflows, result_flags, sign, differ}
use Rattle.ia32_semantics.specs.Condition.{is_less, even_condition, holds}
use Rattle.abs_cmp.specs.Facts.{all_set}
use Rattle.abs_cmp.specs.Rows.{row, opposite, held}
use Rattle.abs_cmp.proofs.SignLemmas.{IsRead, is_read, IsApart, is_apart, IsLess, less_tells, natural_read, low_read, natural_low, zero_word, negative_read, positive_read}
use Rattle.abs_cmp.proofs.RowLemmas.{Keeps, equal_keeps, less_than_keeps, at_most_than_keeps, at_least_than_keeps, greater_than_keeps, below_keeps, not_above_keeps, not_below_keeps, above_keeps, not_equal_keeps, negative_keeps, not_negative_keeps}

-- -- Conditions and their opposites

holds_odd : (c : ℕ) (f : Flags) → c % 2 ≡ 1 → holds c f ≡ not (even_condition (c / 2) f)
unfolding holds
holds_odd c f e = cond-true (c % 2 == 1) _ _ (eq-eqb (c % 2) 1 e)

holds_even : (c : ℕ) (f : Flags) → c % 2 ≡ 0 → holds c f ≡ even_condition (c / 2) f
unfolding holds
holds_even c f e = cond-false (c % 2 == 1) _ _ (ne_eqb (c % 2) 1 (λ h. omega arith))

opposite_holds : (c : ℕ) (f : Flags) → holds c f ≡ false → holds (opposite c) f ≡ true
unfolding opposite
opposite_holds c f h =
    cond_both (c % 2 == 1) (c - 1) (c + 1) (λ v. holds v f ≡ true)
    (λ yes.
    let odd : c % 2 ≡ 1 = eqb-true (c % 2) 1 yes in
    let half : (c - 1) / 2 ≡ c / 2 = omega arith in
    holds_even (c - 1) f (omega arith) ∙ ap (λ n. even_condition n f) half ∙ not-false (even_condition (c / 2) f) (sym (holds_odd c f odd) ∙ h))
    (λ no.
    let apart : c % 2 ≡ 1 → ⊥ = eqb-false (c % 2) 1 no in
    let even : c % 2 ≡ 0 = omega (arith, apart) in
    let half : (c + 1) / 2 ≡ c / 2 = omega arith in
    holds_odd (c + 1) f (omega arith) ∙ ap (λ n. not (even_condition n f)) half ∙ ap not (sym (holds_even c f even) ∙ h))

pub held_holds : (c : ℕ) (taken : Bool) (f : Flags) → holds c f ≡ taken → holds (held c taken) f ≡ true
held_holds c true f h = h
held_holds c false f h = opposite_holds c f h

-- -- The flags of a comparison

abbrev set_value : FlagOut → Bool
set_value flag.Kept = false
set_value (flag.Set b) = b
set_value flag.Undefined = false

same_word : (s t : Bool) (n k : ℕ) (x y : ℤ) → n < 4294967296 → k < 4294967296 → IsRead s n x → IsRead t k y → x ≡ y → n ≡ k
same_word true true n k x y ln lk r q e = let a = r.1 in let b = q.1 in omega (arith, ints)
same_word true false n k x y ln lk r q e = let a = r.1 in let b = q.1 in absurd (omega (arith, ints))
same_word false true n k x y ln lk r q e = let a = r.1 in let b = q.1 in absurd (omega (arith, ints))
same_word false false n k x y ln lk r q e = let a = r.1 in let b = q.1 in omega (arith, ints)

module _ (n k : ℕ) (ln : n < 4294967296) (lk : k < 4294967296) (f : Flags) (given : alu_flags 32 op.Cmp n k false ≡ all_set f) where
  carry : f.cf ≡ nat_lt n (k + 0)
  unfolding alu_flags difference_flags difference_borrows result_flags
  carry = sym (ap (λ (o : FlagsOut). set_value o.cf) given)

  zero : f.zf ≡ (difference 32 n k false == 0)
  unfolding alu_flags difference_flags result_flags
  zero = sym (ap (λ (o : FlagsOut). set_value o.zf) given)

  negative : f.sf ≡ sign 32 (difference 32 n k false)
  unfolding alu_flags difference_flags result_flags
  negative = sym (ap (λ (o : FlagsOut). set_value o.sf) given)

  overflow : f.of ≡ (differ (sign 32 n) (sign 32 k) && differ (sign 32 n) (sign 32 (difference 32 n k false)))
  unfolding alu_flags difference_flags difference_overflows result_flags
  overflow = sym (ap (λ (o : FlagsOut). set_value o.of) given)

  apart : IsApart n k (difference 32 n k false)
  unfolding difference
  apart =
      let none : n + 4294967296 - k - 0 ≡ n + 4294967296 - k = omega arith in
      is_apart n k (difference 32 n k false) ln lk (ap (λ v. v % 4294967296) none)

  small : difference 32 n k false < 4294967296
  unfolding difference
  small = omega arith

  left : IsRead (sign 32 n) n (signed (pos n))
  unfolding sign
  left = is_read (sign 32 n) n refl ln

  right : IsRead (sign 32 k) k (signed (pos k))
  unfolding sign
  right = is_read (sign 32 k) k refl lk

  between : IsRead (sign 32 (difference 32 n k false)) (difference 32 n k false) (signed (pos (difference 32 n k false)))
  unfolding sign
  between = is_read (sign 32 (difference 32 n k false)) (difference 32 n k false) refl small

  less : IsLess (is_less f) (signed (pos n)) (signed (pos k))
  less =
      subst (λ b. IsLess b (signed (pos n)) (signed (pos k)))
      (sym (ap (λ b. differ b f.of) negative ∙ ap (λ b. differ (sign 32 (difference 32 n k false)) b) overflow))
      (less_tells n k (difference 32 n k false) ln lk (signed (pos n)) (signed (pos k)) (signed (pos (difference 32 n k false))) (sign 32 n) (sign 32 k) (sign 32 (difference 32 n k false)) apart left right between)

  none_apart : difference 32 n k false ≡ 0 → n ≡ k
  none_apart e = ⊎_elim (λ over. omega (arith, over.1)) (λ under. absurd (omega (arith, under.0, under.1))) apart

  equal : f.zf ≡ true → signed (pos n) ≡ signed (pos k)
  equal h = ap (λ v. signed (pos v)) (none_apart (eqb-true (difference 32 n k false) 0 (sym zero ∙ h)))

  not_equal : f.zf ≡ false → signed (pos n) ≡ signed (pos k) → ⊥
  not_equal h e =
      let same : n ≡ k = same_word (sign 32 n) (sign 32 k) n k (signed (pos n)) (signed (pos k)) ln lk left right e in
      eqb-false (difference 32 n k false) 0 (sym zero ∙ h) (⊎_elim (λ over. omega (arith, over.1)) (λ under. absurd (omega (arith, under.0))) apart)

  is_below : f.cf ≡ true → n < k
  is_below h = let lt : n < k + 0 = ltb-true n (k + 0) (sym carry ∙ h) in omega arith

  is_not_below : f.cf ≡ false → k ≤ n
  is_not_below h = let le : k + 0 ≤ n = ltb-false n (k + 0) (sym carry ∙ h) in omega arith

  -- -- Each row keeps what its condition allows

  module _ (x bound : Interval) (form : IsCanonical x) (m : IsMember (signed (pos n)) x) (other : IsMember (signed (pos k)) bound) where
    kept_below : n < k → pos 0 ≤ℤ signed (pos k) → (pos 0 ≤ℤ signed (pos n)) × (signed (pos n) <ℤ signed (pos k))
    kept_below lt natural =
        let b : signed (pos k) ≡ pos k = natural_read (sign 32 k) k (signed (pos k)) lk right natural in
        let fits : k < 2147483648 = natural_low (sign 32 k) k (signed (pos k)) lk right natural in
        let a : signed (pos n) ≡ pos n = low_read (sign 32 n) n (signed (pos n)) left (omega arith) in
        (omega (arith, ints), omega (arith, ints))

    kept_not_above : n ≤ k → pos 0 ≤ℤ signed (pos k) → (pos 0 ≤ℤ signed (pos n)) × (signed (pos n) ≤ℤ signed (pos k))
    kept_not_above le natural =
        let b : signed (pos k) ≡ pos k = natural_read (sign 32 k) k (signed (pos k)) lk right natural in
        let fits : k < 2147483648 = natural_low (sign 32 k) k (signed (pos k)) lk right natural in
        let a : signed (pos n) ≡ pos n = low_read (sign 32 n) n (signed (pos n)) left (omega arith) in
        (omega (arith, ints), omega (arith, ints))

    kept_not_below : k ≤ n → pos 0 ≤ℤ signed (pos k) → pos 0 ≤ℤ signed (pos n) → signed (pos k) ≤ℤ signed (pos n)
    kept_not_below le first second =
        let b : signed (pos k) ≡ pos k = natural_read (sign 32 k) k (signed (pos k)) lk right first in
        let a : signed (pos n) ≡ pos n = natural_read (sign 32 n) n (signed (pos n)) ln left second in
        omega (arith, ints)

    kept_above : k < n → pos 0 ≤ℤ signed (pos k) → pos 0 ≤ℤ signed (pos n) → signed (pos k) <ℤ signed (pos n)
    kept_above lt first second =
        let b : signed (pos k) ≡ pos k = natural_read (sign 32 k) k (signed (pos k)) lk right first in
        let a : signed (pos n) ≡ pos n = natural_read (sign 32 n) n (signed (pos n)) ln left second in
        omega (arith, ints)

    -- from 0 the difference is the word itself
    from_zero : signed (pos k) ≡ pos 0 → difference 32 n k false ≡ n
    from_zero e =
        let none : k ≡ 0 = zero_word (sign 32 k) k (signed (pos k)) lk right e in
        ⊎_elim (λ over. omega (arith, over.1)) (λ under. absurd (omega (arith, under.0))) apart

    kept_negative : f.sf ≡ true → signed (pos k) ≡ pos 0 → signed (pos n) <ℤ pos 0
    kept_negative h e = negative_read (sign 32 n) n (signed (pos n)) ln left (ap (sign 32) (sym (from_zero e)) ∙ sym negative ∙ h)

    kept_not_negative : f.sf ≡ false → signed (pos k) ≡ pos 0 → pos 0 ≤ℤ signed (pos n)
    kept_not_negative h e = positive_read (sign 32 n) n (signed (pos n)) left (ap (sign 32) (sym (from_zero e)) ∙ sym negative ∙ h)

    signed_less : is_less f ≡ true → signed (pos n) <ℤ signed (pos k)
    signed_less h = subst (λ b. IsLess b (signed (pos n)) (signed (pos k))) h less

    signed_not_less : is_less f ≡ false → signed (pos k) ≤ℤ signed (pos n)
    signed_not_less h = subst (λ b. IsLess b (signed (pos n)) (signed (pos k))) h less

    not_above_word : f.cf || f.zf ≡ true → n ≤ k
    not_above_word h =
        ⊎_elim
        (λ (carried : f.cf ≡ true). let lt : n < k = is_below carried in omega arith)
        (λ (same : f.zf ≡ true). let e : n ≡ k = none_apart (eqb-true (difference 32 n k false) 0 (sym zero ∙ same)) in omega arith)
        (or_cases f.cf f.zf h)

    above_word : f.cf || f.zf ≡ false → k < n
    above_word h =
        let both = or_parts f.cf f.zf h in
        let le : k ≤ n = is_not_below both.0 in
        let other_word : n ≡ k → ⊥ = λ e. not_equal both.1 (ap (λ v. signed (pos v)) e) in
        omega (arith, other_word)

    less_or_equal : f.zf || is_less f ≡ true → signed (pos n) ≤ℤ signed (pos k)
    less_or_equal h =
        ⊎_elim
        (λ (same : f.zf ≡ true). let e : signed (pos n) ≡ signed (pos k) = equal same in omega (arith, ints))
        (λ (under : is_less f ≡ true). let lt : signed (pos n) <ℤ signed (pos k) = signed_less under in omega (arith, ints))
        (or_cases f.zf (is_less f) h)

    greater : f.zf || is_less f ≡ false → signed (pos k) <ℤ signed (pos n)
    greater h =
        let both = or_parts f.zf (is_less f) h in
        let le : signed (pos k) ≤ℤ signed (pos n) = signed_not_less both.1 in
        let other_number : signed (pos n) ≡ signed (pos k) → ⊥ = not_equal both.0 in
        omega (arith, ints, other_number)

    pub row_keeps : (c : ℕ) → holds c f ≡ true → Keeps (signed (pos n)) (row c x bound)
    unfolding row holds even_condition
    row_keeps c h =
        let v : ℤ = signed (pos n) in
        let w : ℤ = signed (pos k) in
        cond_both (c == 2) _ _ (Keeps v) (λ e. below_keeps v x form m w bound other (kept_below (is_below (at 2 e))))
        (λ _. cond_both (c == 3) _ _ (Keeps v) (λ e. not_below_keeps v x form m w bound other (kept_not_below (is_not_below (not-true f.cf (at 3 e)))))
        (λ _. cond_both (c == 4) _ _ (Keeps v) (λ e. equal_keeps v x form m w bound other (equal (at 4 e)))
        (λ _. cond_both (c == 5) _ _ (Keeps v) (λ e. not_equal_keeps v x form m w bound other (not_equal (not-true f.zf (at 5 e))))
        (λ _. cond_both (c == 6) _ _ (Keeps v) (λ e. not_above_keeps v x form m w bound other (kept_not_above (not_above_word (at 6 e))))
        (λ _. cond_both (c == 7) _ _ (Keeps v) (λ e. above_keeps v x form m w bound other (kept_above (above_word (not-true (f.cf || f.zf) (at 7 e)))))
        (λ _. cond_both (c == 8) _ _ (Keeps v) (λ e. negative_keeps v x form m w bound other (kept_negative (at 8 e)))
        (λ _. cond_both (c == 9) _ _ (Keeps v) (λ e. not_negative_keeps v x form m w bound other (kept_not_negative (not-true f.sf (at 9 e))))
        (λ _. cond_both (c == 12) _ _ (Keeps v) (λ e. less_than_keeps v x form m w bound other (signed_less (at 12 e)))
        (λ _. cond_both (c == 13) _ _ (Keeps v) (λ e. at_least_than_keeps v x form m w bound other (signed_not_less (not-true (is_less f) (at 13 e))))
        (λ _. cond_both (c == 14) _ _ (Keeps v) (λ e. at_most_than_keeps v x form m w bound other (less_or_equal (at 14 e)))
        (λ _. cond_both (c == 15) _ _ (Keeps v) (λ e. greater_than_keeps v x form m w bound other (greater (not-true (f.zf || is_less f) (at 15 e))))
        (λ _. m))))))))))))
      where
        at : (number : ℕ) → (c == number) ≡ true → holds number f ≡ true
        at number e = subst (λ v. holds v f ≡ true) (eqb-true c number e) h

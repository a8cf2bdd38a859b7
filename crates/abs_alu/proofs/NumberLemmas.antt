-- Operations and shifts of 32 bits on numbers alone.

use Rattle.std.proofs.Common.{◌≡◌, ℕ, ◌<◌, true, false, Option, Some, None, refl, sym, ◌∙◌, ap, subst, arith}
use Rattle.std.specs.Prelude.{bit_and, bit_or, bit_xor}
use Rattle.strided.specs.Interval.{Interval, IsMember, IsCanonical}
use Rattle.si_bits.specs.Concrete as concrete
use Rattle.si_bits.proofs.MaskLemmas.{member-and, member-or, member-xor}
use Rattle.si_bits.proofs.MultipleLemmas.{member-mul, member-shl}
use Rattle.si_bits.proofs.ReadingLemmas.{and_of-number, or_of-number, xor_of-number, product_of-number, shl_of-number, shr_of-number, sar_of-number}
use Rattle.si_bits.proofs.ShiftLemmas.{member-shr, member-sar}
use Rattle.ia32_types.specs.declared.Op.{Op}
use Rattle.ia32_types.specs.declared.Op.TheVariants as op
use Rattle.ia32_semantics.specs.Shift.{masked, shifted_left, shifted_right, shifted_signed}
use Rattle.ia32_semantics.specs.Product.{product_low}
use Rattle.vset.specs.Members.{HasValue}
use Rattle.vset.specs.Values.{Values, CanonicalValues, only_number}
use Rattle.vset.specs.World.{World}
use Rattle.abs_alu.specs.Operands.{known}
use Rattle.abs_alu.specs.Words.{interval_of, of_intervals, of_numbers, shifted_by, shifted_interval, shifted}
use Rattle.abs_alu.proofs.CanonicalLemmas.{only_canonical}
use Rattle.abs_alu.proofs.ComputedLemmas.{sar_is, product_low_is}
use Rattle.abs_alu.proofs.WordLemmas.{numbers_has, only_has, known_is}

module _ (lane : ℕ) (world : World) (a b : Values) (ca : CanonicalValues a) (cb : CanonicalValues b) (m n : ℕ) (lm : m < 4294967296) (ln : n < 4294967296) (ha : HasValue lane world m a) (hb : HasValue lane world n b) where
  -- v is among the results of an operation on intervals that have m and n
  abbrev pub Within : Op → ℕ → Type 0
  Within o v = (x y : Interval) → IsCanonical x → IsCanonical y → IsMember (concrete.number m) x → IsMember (concrete.number n) y → IsMember (concrete.number v) (interval_of o x y)

  pub numbers_hold : (o : Op) (v : ℕ) → v < 4294967296 → Within o v → HasValue lane world v (of_numbers o a b)
  unfolding of_numbers
  numbers_hold o v lt within = by_options (only_number a) (only_number b) refl refl
    where
      by_options : (p q : Option Interval) → only_number a ≡ p → only_number b ≡ q → HasValue lane world v (of_intervals o p q)
      by_options None None is is' = tt
      by_options None (Some y) is is' = tt
      by_options (Some x) None is is' = tt
      by_options (Some x) (Some y) is is' =
          numbers_has lane world v lt (interval_of o x y)
          (within x y (only_canonical a x ca is) (only_canonical b y cb is') (only_has lane world m lm a x is ha) (only_has lane world n ln b y is' hb))

  pub and_within : Within op.And (bit_and m n)
  unfolding interval_of
  and_within x y cx cy mx my = subst (λ v. IsMember v (interval_of op.And x y)) (and_of-number m n lm ln) (member-and x y (concrete.number m) (concrete.number n) cx cy mx my)

  pub test_within : Within op.Test (bit_and m n)
  unfolding interval_of
  test_within x y cx cy mx my = subst (λ v. IsMember v (interval_of op.Test x y)) (and_of-number m n lm ln) (member-and x y (concrete.number m) (concrete.number n) cx cy mx my)

  pub or_within : Within op.Or (bit_or m n)
  unfolding interval_of
  or_within x y cx cy mx my = subst (λ v. IsMember v (interval_of op.Or x y)) (or_of-number m n lm ln) (member-or x y (concrete.number m) (concrete.number n) cx cy mx my)

  pub xor_within : Within op.Xor (bit_xor m n)
  unfolding interval_of
  xor_within x y cx cy mx my = subst (λ v. IsMember v (interval_of op.Xor x y)) (xor_of-number m n lm ln) (member-xor x y (concrete.number m) (concrete.number n) cx cy mx my)

  pub mul_within : Within op.Mul (product_low 32 false m n)
  unfolding interval_of
  mul_within x y cx cy mx my =
      subst (λ v. IsMember v (interval_of op.Mul x y)) (product_of-number m n lm ln ∙ ap concrete.number (sym (product_low_is false m n))) (member-mul x y (concrete.number m) (concrete.number n) cx cy mx my)

  pub imul_within : Within op.Imul (product_low 32 true m n)
  unfolding interval_of
  imul_within x y cx cy mx my =
      subst (λ v. IsMember v (interval_of op.Imul x y)) (product_of-number m n lm ln ∙ ap concrete.number (sym (product_low_is true m n))) (member-mul x y (concrete.number m) (concrete.number n) cx cy mx my)

  -- -- Shifts

  -- v is among the shifts of an interval that has m by n modulo 32
  abbrev pub IsMoved : Op → ℕ → Type 0
  IsMoved o v = (x : Interval) → IsCanonical x → IsMember (concrete.number m) x → IsMember (concrete.number v) (shifted_by o x (masked n))

  pub shifted_hold : (o : Op) (v : ℕ) → v < 4294967296 → IsMoved o v → HasValue lane world v (shifted o a b)
  unfolding shifted
  shifted_hold o v lt moved = by_options (only_number a) (known 32 b) refl refl
    where
      by_options : (p : Option Interval) (q : Option ℕ) → only_number a ≡ p → known 32 b ≡ q → HasValue lane world v (shifted_interval o p q)
      by_options None None is is' = tt
      by_options None (Some k) is is' = tt
      by_options (Some x) None is is' = tt
      by_options (Some x) (Some k) is is' =
          numbers_has lane world v lt (shifted_by o x (masked k))
          (subst (λ j. IsMember (concrete.number v) (shifted_by o x (masked j))) (sym (known_is lane world n ln 32 b k is' hb))
          (moved x (only_canonical a x ca is) (only_has lane world m lm a x is ha)))

  few : masked n < 32
  few = omega arith

  pub shl_moved : IsMoved op.Shl (shifted_left 32 m (masked n))
  unfolding shifted_by shifted_left
  shl_moved x cx mx = subst (λ v. IsMember v (shifted_by op.Shl x (masked n))) (shl_of-number (masked n) m lm) (member-shl x (masked n) (concrete.number m) few cx mx)

  pub shr_moved : IsMoved op.Shr (shifted_right m (masked n))
  unfolding shifted_by shifted_right
  shr_moved x cx mx = subst (λ v. IsMember v (shifted_by op.Shr x (masked n))) (shr_of-number (masked n) m lm) (member-shr x (masked n) (concrete.number m) few cx mx)

  pub sar_moved : IsMoved op.Sar (shifted_signed 32 m (masked n))
  unfolding shifted_by
  sar_moved x cx mx =
      subst (λ v. IsMember v (shifted_by op.Sar x (masked n))) (sar_of-number (masked n) m lm ∙ ap concrete.number (sar_is (masked n) m few lm)) (member-sar x (masked n) (concrete.number m) few cx mx)

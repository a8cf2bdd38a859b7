-- Words that are known in part: any number of so many bits, low parts, extensions, and registers of which a part is written.
use Rattle.std.proofs.Common.{◌≡◌, ℕ, ◌/◌, ◌%◌, ◌^◌, ◌<◌, ◌≤◌, Bool, true, false, cond, Option, Some, None, refl, sym, ◌∙◌, ap, subst, pos, ◌≤ℤ◌, arith, lit<}
use Rattle.std.specs.Prelude.{int_le}
use Rattle.std.proofs.lemmas.Bool.{and_parts}
use Rattle.std.proofs.lemmas.Int.{ints}
use Rattle.ia32_types.specs.declared.Width.{Width}
use Rattle.ia32_types.specs.declared.Width.TheVariants.{B8, W16, D32}
use Rattle.ia32_semantics.specs.Effects.{Part, Whole, Word, Low, High, with_part}
use Rattle.ia32_semantics.specs.Operands.{bits, low_part}
use Rattle.si_bits.specs.Concrete as concrete
use Rattle.si_bits.specs.Operations.{low, up_to}
use Rattle.si_bits.proofs.MemberLemmas.{member-up_to}
use Rattle.si_bits.proofs.PartLemmas.{member-low}
use Rattle.si_bits.proofs.ReadingLemmas.{low_of-number}
use Rattle.si_bits.proofs.SignLemmas.{number-low, word-natural, word-number}
use Rattle.strided.specs.Interval.{Interval, IsMember}
use Rattle.strided.proofs.MemberLemmas.{int_le_true}
use Rattle.vset.specs.Values.{Values, Top, CanonicalValues, only_number}
use Rattle.vset.specs.World.{World}
use Rattle.vset.specs.Members.{HasValue}
use Rattle.abs_alu.specs.Operands.{known}
use Rattle.abs_alu.specs.Words.{number}
use Rattle.abs_alu.proofs.CanonicalLemmas.{only_canonical}
use Rattle.abs_alu.proofs.WordLemmas.{numbers_has, number_has, only_has, known_is}
use Rattle.step_soundness.specs.Terms.{IsPart}
use Rattle.abs_semantics.specs.Operands.{word_number, any_of, low_numbers, low_of, second_byte, known_with_part, is_up_to, if_alone, with_part_value}

module _ (lane : ℕ) (world : World) where
  -- the number of a word
  pub word_has : (n : ℕ) → n < 4294967296 → HasValue lane world n (word_number n)
  word_has n lt = number_has lane world n lt

  pub any_has : (width : Width) (n : ℕ) → n < 2 ^ bits width → HasValue lane world n (any_of width)
  any_has B8 n lt = numbers_has lane world n (omega arith) (up_to 255) (member-up_to 255 n (omega arith) (omega arith))
  any_has W16 n lt = numbers_has lane world n (omega arith) (up_to 65535) (member-up_to 65535 n (omega arith) (omega arith))
  any_has D32 n lt = tt

  -- -- Reading a part

  low_is : (w n : ℕ) → n < 4294967296 → concrete.low_of w (concrete.number n) ≡ concrete.number (n % 2 ^ w)
  low_is w n lt = low_of-number w n lt

  -- the low part of a word that a value has
  module _ (v : Values) (form : CanonicalValues v) (n : ℕ) (lt : n < 4294967296) (has : HasValue lane world n v) where
    low_numbers_has : (width : Width) (small : bits width < 32) (few : 2 ^ bits width ≤ 65536) (below : n % 2 ^ bits width < 2 ^ bits width) (o : Option Interval) → only_number v ≡ o
        → HasValue lane world (n % 2 ^ bits width) (low_numbers width o)
    low_numbers_has width small few below None e = any_has width (n % 2 ^ bits width) below
    low_numbers_has width small few below (Some x) e =
        numbers_has lane world (n % 2 ^ bits width) (omega arith) (low (bits width) x)
        (subst (λ z. IsMember z (low (bits width) x)) (low_is (bits width) n lt) (member-low (bits width) x (concrete.number n) small (only_canonical v x form e) (only_has lane world n lt v x e has)))

    pub low_has : (width : Width) → HasValue lane world (low_part width n) (low_of width v)
    low_has B8 = low_numbers_has B8 (lit< tt) (omega arith) (omega arith) (only_number v) refl
    low_has W16 = low_numbers_has W16 (lit< tt) (omega arith) (omega arith) (only_number v) refl
    low_has D32 = has

    -- the second byte
    second_has : (o : Option ℕ) → ((k : ℕ) → o ≡ Some k → k ≡ n) → HasValue lane world (n / 256 % 256) (second_byte o)
    second_has None is = any_has B8 (n / 256 % 256) (omega arith)
    second_has (Some k) is =
        let below : n / 256 % 256 < 256 = omega arith in
        let same : k ≡ n = is k refl in
        subst (λ k. HasValue lane world (n / 256 % 256) (number (pos (k / 256 % 256)))) (sym same)
        (subst (λ z. HasValue lane world (n / 256 % 256) (number z)) (number-low (n / 256 % 256) (omega arith)) (number_has lane world (n / 256 % 256) (omega arith)))

    pub high_has : HasValue lane world (n / 256 % 256) (second_byte (known 32 v))
    high_has = second_has (known 32 v) (λ k e. known_is lane world n lt 32 v k e has)

  -- -- Writing a part

  -- a number below a bound, as a member of numbers up to the bound
  -- a register of which a part is written, where nothing stands above the part
  module _ (old new : Values) (form : CanonicalValues old) (n m : ℕ) (lt : n < 4294967296) (less : m < 4294967296) (was : HasValue lane world n old) (has : HasValue lane world m new) where
    known_part_has : (part : Part) (w : ℕ) (other : Values) → with_part part n m < 4294967296 → HasValue lane world (with_part part n m) other
        → (o p : Option ℕ) → known 32 old ≡ o → known w new ≡ p → HasValue lane world (with_part part n m) (known_with_part part other o p)
    known_part_has part w other below h None p e f = h
    known_part_has part w other below h (Some k) None e f = h
    known_part_has part w other below h (Some k) (Some j) e f =
        let same_old : k ≡ n = known_is lane world n lt 32 old k e was in
        let same_new : j ≡ m = known_is lane world m less w new j f has in
        let same : with_part part n m ≡ with_part part k j = ap (λ v. with_part part v m) (sym same_old) ∙ ap (with_part part k) (sym same_new) in
        subst (λ v. HasValue lane world (with_part part n m) (word_number v)) same (word_has (with_part part n m) below)

    -- a word whose value has numbers up to a bound alone
    up_to_is : (most : ℕ) (o : Option Interval) → only_number old ≡ o → is_up_to most o ≡ true → n ≤ most
    up_to_is most None e is = cc
    up_to_is most (Some x) e is =
        let both = and_parts (int_le (pos 0) x.lo) (int_le x.hi (pos most)) is in
        let low : pos 0 ≤ℤ x.lo = int_le_true (pos 0) x.lo both.0 in
        let high : x.hi ≤ℤ pos most = int_le_true x.hi (pos most) both.1 in
        let member : IsMember (concrete.number n) x = only_has lane world n lt old x e was in
        let reached = member.reached in
        let range = member.in_range in
        let natural : pos 0 ≤ℤ concrete.number n = omega (arith, ints) in
        let plain : pos (concrete.word (concrete.number n)) ≡ concrete.number n = word-natural (concrete.number n) natural in
        let word : concrete.word (concrete.number n) ≡ n = word-number n lt in
        let same : pos n ≡ concrete.number n = ap pos (sym word) ∙ plain in
        omega (arith, ints)

    alone_has : (part : Part) (most : ℕ) → (n ≤ most → with_part part n m ≡ m) → HasValue lane world (with_part part n m) (if_alone most old new)
    alone_has part most plain = by_test (is_up_to most (only_number old)) refl
      where
        by_test : (b : Bool) → is_up_to most (only_number old) ≡ b → HasValue lane world (with_part part n m) (cond b new Top)
        by_test true e = subst (λ v. HasValue lane world v new) (sym (plain (up_to_is most (only_number old) refl e))) has
        by_test false e = tt

    -- a register that held a word, of which a part takes another
    pub part_has : (part : Part) → IsPart part m → HasValue lane world (with_part part n m) (with_part_value part old new)
    unfolding with_part with_part_value
    part_has Whole fits = let plain : m % 4294967296 ≡ m = omega arith in subst (λ v. HasValue lane world v new) (sym plain) has
    part_has Word fits =
        known_part_has Word 16 (if_alone 65535 old new) (omega arith) (alone_has Word 65535 (λ few. omega arith)) (known 32 old) (known 16 new) refl refl
    part_has Low fits = known_part_has Low 8 (if_alone 255 old new) (omega arith) (alone_has Low 255 (λ few. omega arith)) (known 32 old) (known 8 new) refl refl
    part_has High fits = known_part_has High 8 Top (omega arith) tt (known 32 old) (known 8 new) refl refl

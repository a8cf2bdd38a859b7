-- Words as numbers of value-sets.

use Rattle.std.proofs.Common.{◌≡◌, ℕ, ◌%◌, ◌^◌, ◌<◌, ◌==◌, Bool, true, false, cond, inl, inr, [], ◌∷◌, Option, Some, None, refl, sym, ◌∙◌, ap, subst, pos, ◌+ℤ◌, arith}
use Rattle.std.specs.Prelude.{nat_lt}
use Rattle.std.specs.Int.{w32, int_wrap, cast_signed}
use Rattle.std.proofs.lemmas.Bool.{eqb-true}
use Rattle.std.proofs.lemmas.Int.{ints, int_wrap_fits, int_wrap-add_right}
use Rattle.image_map.specs.declared.region.RegionId.TheVariants.{Global}
use Rattle.image_map.specs.Regions.{same_region}
use Rattle.image_map.proofs.OrderLaws.{same_region-equal}
use Rattle.strided.specs.Concrete.{signed}
use Rattle.strided.specs.Interval.{Interval, IsMember, one}
use Rattle.strided.proofs.SumLemmas.{signed_fits, member_one}
use Rattle.si_bits.specs.Concrete as concrete
use Rattle.si_bits.proofs.MemberLemmas.{member_single}
use Rattle.si_bits.proofs.SignLemmas.{word-number}
use Rattle.vset.specs.declared.part.Part.{Part}
use Rattle.vset.specs.Operations.{part}
use Rattle.vset.specs.Values.{Values, Top, Parts, only_number}
use Rattle.vset.specs.World.{World, TheImage, base_of}
use Rattle.vset.specs.Members.{IsPartMember, IsInParts, HasValue}
use Rattle.vset.proofs.MemberLemmas.{settled_has}
use Rattle.vset.proofs.WorldLemmas.{global_base}
use Rattle.strided.specs.Operations.{only}
use Rattle.abs_alu.specs.Operands.{word_within, single_word, known}
use Rattle.abs_alu.specs.Words.{numbers, number}

-- the two readings of a word are one
pub signed_is : (n : ℕ) → n < 4294967296 → signed (pos n) ≡ concrete.number n
unfolding int_wrap
signed_is n lt = let same : n % 4294967296 ≡ n = omega arith in ap (cast_signed w32) same

module _ (lane : ℕ) (w : World) (n : ℕ) (lt : n < 4294967296) where
  pub numbers_has : (x : Interval) → IsMember (concrete.number n) x → HasValue lane w n (numbers x)
  numbers_has x m =
      let fits = signed_fits (pos n) in
      let plain : pos 0 +ℤ pos n ≡ pos n = omega (arith, ints) in
      settled_has lane w n (part Global x ∷ [])
      (inl (record {
        thing = TheImage;
        is_in = tt;
        region = refl;
        offset = signed (pos n);
        within = subst (λ v. IsMember v x) (sym (signed_is n lt)) m;
        low = omega (arith, ints);
        high = omega (arith, ints);
        reached = sym (int_wrap-add_right w32 (pos 0) (pos n) ∙ ap signed plain);
      }))

  pub number_has : HasValue lane w n (number (concrete.number n))
  number_has = numbers_has (one (concrete.number n)) (member_one (concrete.number n))

  number_of : (p : Part) → p.region ≡ Global → IsPartMember lane w n p → IsMember (concrete.number n) p.si
  number_of p is m =
      let none : base_of m.thing ≡ 0 = global_base lane m.thing (m.region ∙ is) in
      let plain : pos 0 +ℤ m.offset ≡ m.offset = omega (arith, ints) in
      let low = m.low in
      let high = m.high in
      let fits : signed m.offset ≡ m.offset = int_wrap_fits w32 m.offset (omega (arith, ints)) in
      let same : signed (pos n) ≡ m.offset = m.reached ∙ ap (λ b. signed (pos b +ℤ m.offset)) none ∙ ap signed plain ∙ fits in
      subst (λ v. IsMember v p.si) (sym same ∙ signed_is n lt) m.within

  -- a value of a set of numbers alone is one of them
  pub only_has : (v : Values) (x : Interval) → only_number v ≡ Some x → HasValue lane w n v → IsMember (concrete.number n) x
  only_has Top x e m = cc
  only_has (Parts []) x e m = absurd m
  only_has (Parts (p ∷ [])) x e m = by_test (same_region p.region Global) refl e m
    where
      here : IsInParts lane w n (p ∷ []) → IsPartMember lane w n p
      here (inl first) = first
      here (inr none) = absurd none

      by_test : (t : Bool) → same_region p.region Global ≡ t → cond t (Some p.si) None ≡ Some x → IsInParts lane w n (p ∷ []) → IsMember (concrete.number n) x
      by_test true is e m = let same : p.si ≡ x = cc in subst (IsMember (concrete.number n)) same (number_of p (same_region-equal p.region Global is) (here m))
      by_test false is e m = cc
  only_has (Parts (p ∷ q ∷ rest)) x e m = cc

  -- a value of a set with one known word is that word
  single_is : (bits : ℕ) (o : Option Interval) (k : ℕ) → single_word bits o ≡ Some k → ((x : Interval) → o ≡ Some x → IsMember (concrete.number n) x) → k ≡ n
  unfolding only
  single_is bits None k e member = cc
  single_is bits (Some x) k e member = by_test (x.stride == 0) refl e
    where
      by_word : (t : Bool) → cond t (Some (concrete.word x.lo)) None ≡ Some k → concrete.word x.lo ≡ k
      by_word true e = cc
      by_word false e = cc

      by_test : (t : Bool) → (x.stride == 0) ≡ t → word_within bits (cond t (Some x.lo) None) ≡ Some k → k ≡ n
      by_test true is e =
          let same : concrete.word x.lo ≡ k = by_word (nat_lt (concrete.word x.lo) (2 ^ bits)) e in
          let number_is : concrete.number n ≡ x.lo = member_single (concrete.number n) x (eqb-true x.stride 0 is) (member x refl) in
          sym same ∙ ap concrete.word (sym number_is) ∙ word-number n lt
      by_test false is e = cc

  pub known_is : (bits : ℕ) (v : Values) (k : ℕ) → known bits v ≡ Some k → HasValue lane w n v → k ≡ n
  unfolding known
  known_is bits v k e m = single_is bits (only_number v) k e (λ x is. only_has v x is m)

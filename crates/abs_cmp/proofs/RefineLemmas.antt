-- Values of a value-set that a condition allows.

use Rattle.std.proofs.Common.{◌≡◌, ℕ, ◌^◌, ◌<◌, Bool, inl, inr, List, [], ◌∷◌, Option, Some, None, refl, sym, ◌∙◌, ap, subst, pos, ◌+ℤ◌, arith}
use Rattle.std.specs.Prelude.{IsSomeAnd}
use Rattle.std.specs.Int.{w32}
use Rattle.std.specs.List.{filter_map, cons_option}
use Rattle.std.proofs.lemmas.Bool.{cond_both}
use Rattle.std.proofs.lemmas.Int.{ints, int_wrap_fits, int_wrap-add_right}
use Rattle.image_map.specs.declared.region.RegionId.TheVariants.{Global}
use Rattle.image_map.specs.Regions.{same_region}
use Rattle.image_map.proofs.OrderLaws.{same_region-equal}
use Rattle.strided.specs.Concrete.{signed}
use Rattle.strided.specs.Interval.{Interval, IsMember, IsCanonical, full}
use Rattle.strided.proofs.MemberLemmas.{full_canonical}
use Rattle.strided.proofs.SumLemmas.{signed_fits, member_full}
use Rattle.ia32_semantics.specs.declared.flags.Flags.{Flags}
use Rattle.ia32_semantics.specs.Condition.{holds}
use Rattle.vset.specs.declared.part.Part.{Part}
use Rattle.vset.specs.Operations.{part}
use Rattle.vset.specs.Values.{Values, Top, Parts, AreCanonical, CanonicalValues}
use Rattle.vset.specs.World.{World, TheImage, base_of}
use Rattle.vset.specs.Members.{IsPartMember, IsInParts, HasValue}
use Rattle.vset.proofs.MemberLemmas.{settled_has}
use Rattle.vset.proofs.WorldLemmas.{global_base}
use Rattle.abs_cmp.specs.Facts.{IsCompared}
use Rattle.abs_cmp.specs.Rows.{row, held}
use Rattle.abs_cmp.specs.Refine.{numbers, refined_part, refined, refine}
use Rattle.abs_cmp.proofs.RowLemmas.{Keeps}
use Rattle.abs_cmp.proofs.CompareLemmas.{held_holds, row_keeps}

module _ (lane : ℕ) (w : World) (n : ℕ) where
  -- a word is its signed number among the numbers
  as_number : (si : Interval) → IsMember (signed (pos n)) si → IsPartMember lane w n (part Global si)
  as_number si m =
      let fits = signed_fits (pos n) in
      let plain : pos 0 +ℤ pos n ≡ pos n = omega (arith, ints) in
      record {
        thing = TheImage;
        is_in = tt;
        region = refl;
        offset = signed (pos n);
        within = m;
        low = omega (arith, ints);
        high = omega (arith, ints);
        reached = sym (int_wrap-add_right w32 (pos 0) (pos n) ∙ ap signed plain);
      }

  number_of : (p : Part) → p.region ≡ Global → IsPartMember lane w n p → IsMember (signed (pos n)) p.si
  number_of p is m =
      let none : base_of m.thing ≡ 0 = global_base lane m.thing (m.region ∙ is) in
      let plain : pos 0 +ℤ m.offset ≡ m.offset = omega (arith, ints) in
      let low = m.low in
      let high = m.high in
      let fits : signed m.offset ≡ m.offset = int_wrap_fits w32 m.offset (omega (arith, ints)) in
      let same : signed (pos n) ≡ m.offset = m.reached ∙ ap (λ b. signed (pos b +ℤ m.offset)) none ∙ ap signed plain ∙ fits in
      subst (λ v. IsMember v p.si) (sym same) m.within

  left_number : (r : Option Interval) → Keeps (signed (pos n)) r → IsSomeAnd (numbers r) (IsPartMember lane w n)
  left_number None k = absurd k
  left_number (Some si) k = as_number si k

  here : (o : Option Part) (rest : List Part) → IsSomeAnd o (IsPartMember lane w n) → IsInParts lane w n (cons_option o rest)
  here None rest m = absurd m
  here (Some p) rest m = inl m

  later : (o : Option Part) (rest : List Part) → IsInParts lane w n rest → IsInParts lane w n (cons_option o rest)
  later None rest m = m
  later (Some p) rest m = inr m

  module _ (condition : ℕ) (bound : Interval) (kept : (x : Interval) → IsCanonical x → IsMember (signed (pos n)) x → Keeps (signed (pos n)) (row condition x bound)) where
    part_keeps : (p : Part) → IsCanonical p.si → IsPartMember lane w n p → IsSomeAnd (refined_part condition bound p) (IsPartMember lane w n)
    part_keeps p form m =
        cond_both (same_region p.region Global) (numbers (row condition p.si bound)) (Some p) (λ (o : Option Part). IsSomeAnd o (IsPartMember lane w n))
        (λ is. left_number (row condition p.si bound) (kept p.si form (number_of p (same_region-equal p.region Global is) m)))
        (λ _. m)

    parts_keep : (ps : List Part) → AreCanonical ps → IsInParts lane w n ps → IsInParts lane w n (filter_map (refined_part condition bound) ps)
    parts_keep [] forms m = absurd m
    parts_keep (p ∷ ps) forms (inl first) = here (refined_part condition bound p) (filter_map (refined_part condition bound) ps) (part_keeps p forms.0 first)
    parts_keep (p ∷ ps) forms (inr rest) = later (refined_part condition bound p) (filter_map (refined_part condition bound) ps) (parts_keep ps forms.1 rest)

    refined_keeps : (v : Values) → CanonicalValues v → HasValue lane w n v → HasValue lane w n (refined condition bound v)
    refined_keeps Top forms m =
        settled_has lane w n (filter_map (refined_part condition bound) (part Global full ∷ []))
        (parts_keep (part Global full ∷ []) (full_canonical, tt) (inl (as_number full (member_full (signed (pos n)) (signed_fits (pos n))))))
    refined_keeps (Parts ps) forms m = settled_has lane w n (filter_map (refined_part condition bound) ps) (parts_keep ps forms m)

  pub refine_keeps : (condition : ℕ) (taken : Bool) (bound : Interval) (flags : Flags) (v : Values) → CanonicalValues v → n < 2 ^ 32 → HasValue lane w n v → IsCompared bound n flags → holds condition flags ≡ taken → HasValue lane w n (refine condition taken bound v)
  unfolding refine
  refine_keeps condition taken bound flags v forms lt m fact h =
      refined_keeps (held condition taken) bound
      (λ x form member. row_keeps n fact.other lt fact.is_word flags fact.given x bound form member fact.within (held condition taken) (held_holds condition taken flags h))
      v forms m

-- Members under the operations on lists of parts.

use Rattle.std.proofs.Common.{◌≡◌, ℕ, inl, inr, List, [], ◌∷◌, refl, sym, ◌∙◌, ℤ}
use Rattle.std.proofs.lemmas.Bool.{cond_both}
use Rattle.image_map.specs.Regions.{same_region, region_before}
use Rattle.image_map.proofs.OrderLaws.{same_region-equal}
use Rattle.strided.specs.Interval.{Interval, IsMember, IsCanonical}
use Rattle.strided.proofs.JoinLemmas.{member_join_left, member_join_right, member_widen_old, member_widen_new, join_canonical, widen_canonical}
use Rattle.vset.specs.declared.part.Part.{Part}
use Rattle.vset.specs.declared.part.Both.{Both}
use Rattle.vset.specs.declared.part.Both.TheVariants.{Joined, Widened}
use Rattle.vset.specs.Values.{Values, Top, Parts, says_nothing, settled, AreCanonical, CanonicalValues}
use Rattle.vset.specs.Operations.{part, both_of, with_part, with_parts, of_both, join, widen}
use Rattle.vset.specs.World.{World}
use Rattle.vset.specs.Members.{IsPartMember, IsInParts, HasValue}

-- -- Intervals of both

both_canonical : (both : Both) (a b : Interval) → IsCanonical a → IsCanonical b → IsCanonical (both_of both a b)
both_canonical Joined a b ca cb = join_canonical a b ca cb
both_canonical Widened a b ca cb = widen_canonical a b ca

both_left : (both : Both) (a b : Interval) (v : ℤ) → IsCanonical a → IsMember v a → IsMember v (both_of both a b)
both_left Joined a b v ca m = member_join_left v a b m
both_left Widened a b v ca m = member_widen_old v a b ca m

both_right : (both : Both) (a b : Interval) (v : ℤ) → IsCanonical b → IsMember v b → IsMember v (both_of both a b)
both_right Joined a b v cb m = member_join_right v a b m
both_right Widened a b v cb m = member_widen_new v a b cb m

module _ (lane : ℕ) (w : World) (n : ℕ) where
  -- a member of a part of one region is a member of another part of the region that has its offsets
  pub moved : (p q : Part) → p.region ≡ q.region → ((v : ℤ) → IsMember v p.si → IsMember v q.si) → IsPartMember lane w n p → IsPartMember lane w n q
  moved p q same held m =
      record {
        thing = m.thing;
        is_in = m.is_in;
        region = m.region ∙ same;
        offset = m.offset;
        within = held m.offset m.within;
        low = m.low;
        high = m.high;
        reached = m.reached;
      }

  -- -- A part among parts

  pub put_keeps : (both : Both) (p : Part) (ps : List Part) → AreCanonical ps → IsInParts lane w n ps → IsInParts lane w n (with_part both p ps)
  unfolding with_part
  put_keeps both p [] canonical m = absurd m
  put_keeps both p (x ∷ xs) canonical m =
      cond_both (region_before x.region p.region) _ _ (IsInParts lane w n)
      (λ _. passed m (put_keeps both p xs canonical.1))
      (λ _. cond_both (same_region x.region p.region) _ _ (IsInParts lane w n) (λ _. joined m) (λ _. inr m))
    where
      passed : IsInParts lane w n (x ∷ xs) → (IsInParts lane w n xs → IsInParts lane w n (with_part both p xs)) → IsInParts lane w n (x ∷ with_part both p xs)
      passed (inl here) rest = inl here
      passed (inr later) rest = inr (rest later)

      joined : IsInParts lane w n (x ∷ xs) → IsInParts lane w n (part x.region (both_of both x.si p.si) ∷ xs)
      joined (inl here) = inl (moved x (part x.region (both_of both x.si p.si)) refl (λ v. both_left both x.si p.si v canonical.0) here)
      joined (inr later) = inr later

  pub put_has : (both : Both) (p : Part) (ps : List Part) → IsCanonical p.si → IsPartMember lane w n p → IsInParts lane w n (with_part both p ps)
  unfolding with_part
  put_has both p [] canonical m = inl m
  put_has both p (x ∷ xs) canonical m =
      cond_both (region_before x.region p.region) _ _ (IsInParts lane w n)
      (λ _. inr (put_has both p xs canonical m))
      (λ _. cond_both (same_region x.region p.region) _ _ (IsInParts lane w n)
      (λ same. inl (moved p (part x.region (both_of both x.si p.si)) (sym (same_region-equal x.region p.region same)) (λ v. both_right both x.si p.si v canonical) m))
      (λ _. inl m))

pub put_canonical : (both : Both) (p : Part) (ps : List Part) → IsCanonical p.si → AreCanonical ps → AreCanonical (with_part both p ps)
unfolding with_part
put_canonical both p [] cp cs = (cp, tt)
put_canonical both p (x ∷ xs) cp cs =
    cond_both (region_before x.region p.region) _ _ AreCanonical
    (λ _. (cs.0, put_canonical both p xs cp cs.1))
    (λ _. cond_both (same_region x.region p.region) _ _ AreCanonical (λ _. (both_canonical both x.si p.si cs.0 cp, cs.1)) (λ _. (cp, cs)))

pub with_canonical : (both : Both) (ps into : List Part) → AreCanonical ps → AreCanonical into → AreCanonical (with_parts both ps into)
unfolding with_parts
with_canonical both [] into cs ci = ci
with_canonical both (p ∷ ps) into cs ci = with_canonical both ps (with_part both p into) cs.1 (put_canonical both p into cs.0 ci)

module _ (lane : ℕ) (w : World) (n : ℕ) where
  pub with_keeps : (both : Both) (ps into : List Part) → AreCanonical ps → AreCanonical into → IsInParts lane w n into → IsInParts lane w n (with_parts both ps into)
  unfolding with_parts
  with_keeps both [] into cs ci m = m
  with_keeps both (p ∷ ps) into cs ci m = with_keeps both ps (with_part both p into) cs.1 (put_canonical both p into cs.0 ci) (put_keeps lane w n both p into ci m)

  pub with_has : (both : Both) (ps into : List Part) → AreCanonical ps → AreCanonical into → IsInParts lane w n ps → IsInParts lane w n (with_parts both ps into)
  unfolding with_parts
  with_has both [] into cs ci m = absurd m
  with_has both (p ∷ ps) into cs ci (inl here) = with_keeps both ps (with_part both p into) cs.1 (put_canonical both p into cs.0 ci) (put_has lane w n both p into cs.0 here)
  with_has both (p ∷ ps) into cs ci (inr later) = with_has both ps (with_part both p into) cs.1 (put_canonical both p into cs.0 ci) later

  -- -- Value-sets

  pub settled_has : (ps : List Part) → IsInParts lane w n ps → HasValue lane w n (settled ps)
  unfolding settled
  settled_has ps m = cond_both (says_nothing ps) Top (Parts ps) (HasValue lane w n) (λ _. tt) (λ _. m)

  both_has_left : (both : Both) (a b : Values) → CanonicalValues a → CanonicalValues b → HasValue lane w n a → HasValue lane w n (of_both both a b)
  both_has_left both Top b ca cb m = tt
  both_has_left both (Parts xs) Top ca cb m = tt
  both_has_left both (Parts xs) (Parts ys) ca cb m = settled_has (with_parts both ys xs) (with_keeps both ys xs cb ca m)

  both_has_right : (both : Both) (a b : Values) → CanonicalValues a → CanonicalValues b → HasValue lane w n b → HasValue lane w n (of_both both a b)
  both_has_right both Top b ca cb m = tt
  both_has_right both (Parts xs) Top ca cb m = tt
  both_has_right both (Parts xs) (Parts ys) ca cb m = settled_has (with_parts both ys xs) (with_has both ys xs cb ca m)

  pub join_has_left : (a b : Values) → CanonicalValues a → CanonicalValues b → HasValue lane w n a → HasValue lane w n (join a b)
  unfolding join
  join_has_left a b ca cb m = both_has_left Joined a b ca cb m

  pub join_has_right : (a b : Values) → CanonicalValues a → CanonicalValues b → HasValue lane w n b → HasValue lane w n (join a b)
  unfolding join
  join_has_right a b ca cb m = both_has_right Joined a b ca cb m

  pub widen_has_left : (a b : Values) → CanonicalValues a → CanonicalValues b → HasValue lane w n a → HasValue lane w n (widen a b)
  unfolding widen
  widen_has_left a b ca cb m = both_has_left Widened a b ca cb m

  pub widen_has_right : (a b : Values) → CanonicalValues a → CanonicalValues b → HasValue lane w n b → HasValue lane w n (widen a b)
  unfolding widen
  widen_has_right a b ca cb m = both_has_right Widened a b ca cb m

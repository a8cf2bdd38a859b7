-- Offsets of regions that age.

use Rattle.std.proofs.Common.{◌≡◌, ℕ, ◌+◌, ◌<◌, ◌≤◌, Bool, true, false, cond, not, inl, inr, List, [], ◌∷◌, length, drop, get_or, filter, refl, sym, ◌∙◌, ap, ℤ}
use Rattle.std.specs.List.{list_any}
use Rattle.std.proofs.lemmas.List.{drop_more, drop_all}
use Rattle.std.proofs.lemmas.Bool.{cond_both}
use Rattle.image_map.specs.declared.region.RegionId.{RegionId}
use Rattle.image_map.specs.Regions.{same_region, region_before}
use Rattle.image_map.proofs.OrderLaws.{same_region-equal, same_region-itself}
use Rattle.strided.specs.Interval.{Interval, IsMember}
use Rattle.strided.proofs.JoinLemmas.{member_join_left, member_join_right}
use Rattle.vset.specs.declared.part.Part.{Part}
use Rattle.vset.specs.declared.part.Both.TheVariants.{Joined}
use Rattle.vset.specs.Values.{Values, Top, Parts, says_nothing, settled}
use Rattle.vset.specs.Operations.{part, both_of, with_part, without_region, renamed_into, with_renamed, drop_region, age, also}
use Rattle.vset.specs.Members.{IsOffset, HasOffset}

-- -- The loop

next_renamed : (from to : RegionId) (ps into : List Part) (i : ℕ) (p : Part) → i < length ps → p ≡ get_or ps i p → with_renamed from to (drop i ps) into ≡ with_renamed from to (drop (i + 1) ps) (renamed_into from to p into)
unfolding with_renamed
next_renamed from to ps into i p lt is =
    ap (λ t. with_renamed from to t into) (drop_more ps i p lt) ∙ ap (λ (v : Part). with_renamed from to (drop (i + 1) ps) (renamed_into from to v into)) (sym is)

pub renamed_step : (from to : RegionId) (ps whole : List Part) (i : ℕ) (p : Part) (out next : List Part) → i < length ps → p ≡ get_or ps i p → next ≡ renamed_into from to p out → with_renamed from to (drop i ps) out ≡ whole → with_renamed from to (drop (i + 1) ps) next ≡ whole
renamed_step from to ps whole i p out next lt is put e =
    ap (with_renamed from to (drop (i + 1) ps)) put ∙ sym (next_renamed from to ps out i p lt is) ∙ e

pub renamed_all : (from to : RegionId) (ps : List Part) (i : ℕ) (out whole : List Part) → length ps ≤ i → with_renamed from to (drop i ps) out ≡ whole → out ≡ whole
unfolding with_renamed
renamed_all from to ps i out whole h e = ap (λ t. with_renamed from to t out) (sym (drop_all i ps h)) ∙ e

-- -- Offsets

module _ (r : RegionId) (o : ℤ) where
  put_offset : (p : Part) (ps : List Part) → IsOffset r o ps → IsOffset r o (with_part Joined p ps)
  unfolding with_part
  put_offset p [] h = absurd h
  put_offset p (x ∷ xs) h =
      cond_both (region_before x.region p.region) _ _ (IsOffset r o) (λ _. passed h (put_offset p xs))
      (λ _. cond_both (same_region x.region p.region) _ _ (IsOffset r o) (λ _. joined h) (λ _. inr h))
    where
      passed : IsOffset r o (x ∷ xs) → (IsOffset r o xs → IsOffset r o (with_part Joined p xs)) → IsOffset r o (x ∷ with_part Joined p xs)
      passed (inl here) rest = inl here
      passed (inr later) rest = inr (rest later)

      joined : IsOffset r o (x ∷ xs) → IsOffset r o (part x.region (both_of Joined x.si p.si) ∷ xs)
      joined (inl here) = inl (here.0, member_join_left o x.si p.si here.1)
      joined (inr later) = inr later

  put_own : (si : Interval) (ps : List Part) → IsMember o si → IsOffset r o (with_part Joined (part r si) ps)
  unfolding with_part
  put_own si [] m = inl (refl, m)
  put_own si (x ∷ xs) m =
      cond_both (region_before x.region r) _ _ (IsOffset r o) (λ _. inr (put_own si xs m))
      (λ _. cond_both (same_region x.region r) _ _ (IsOffset r o)
      (λ same. inl (same_region-equal x.region r same, member_join_right o x.si si m))
      (λ _. inl (refl, m)))

  settled_offset : (ps : List Part) → IsOffset r o ps → HasOffset r o (settled ps)
  unfolding settled
  settled_offset ps h = cond_both (says_nothing ps) Top (Parts ps) (HasOffset r o) (λ _. tt) (λ _. h)

  renamed_keeps : (from to : RegionId) (ps into : List Part) → IsOffset r o into → IsOffset r o (with_renamed from to ps into)
  unfolding with_renamed
  renamed_keeps from to [] into h = h
  renamed_keeps from to (p ∷ ps) into h =
      renamed_keeps from to ps (renamed_into from to p into)
      (cond_both (same_region p.region from) _ _ (IsOffset r o) (λ _. put_offset (part to p.si) into h) (λ _. h))

  other_kept : (young : RegionId) (ps : List Part) → same_region r young ≡ false → IsOffset r o ps → IsOffset r o (without_region young ps)
  other_kept young [] other h = absurd h
  other_kept young (p ∷ ps) other (inl here) =
      kept (not (same_region p.region young)) (ap (λ (v : RegionId). not (same_region v young)) here.0 ∙ ap not other)
    where
      kept : (t : Bool) → t ≡ true → IsOffset r o (cond t (p ∷ filter (λ (q : Part). not (same_region q.region young)) ps) (filter (λ (q : Part). not (same_region q.region young)) ps))
      kept true e = inl here
      kept false e = cc
  other_kept young (p ∷ ps) other (inr later) = passed (not (same_region p.region young)) (other_kept young ps other later)
    where
      passed : (t : Bool) → IsOffset r o (filter (λ (q : Part). not (same_region q.region young)) ps) → IsOffset r o (cond t (p ∷ filter (λ (q : Part). not (same_region q.region young)) ps) (filter (λ (q : Part). not (same_region q.region young)) ps))
      passed true h = inr h
      passed false h = h

-- an offset of the region that is renamed
module _ (from to : RegionId) (o : ℤ) where
  renamed_has : (ps into : List Part) → IsOffset from o ps → IsOffset to o (with_renamed from to ps into)
  unfolding with_renamed
  renamed_has [] into h = absurd h
  renamed_has (p ∷ ps) into (inl here) =
      renamed_keeps to o from to ps (renamed_into from to p into)
      (own (same_region p.region from) (ap (λ (v : RegionId). same_region v from) here.0 ∙ same_region-itself from))
    where
      own : (t : Bool) → t ≡ true → IsOffset to o (cond t (with_part Joined (part to p.si) into) into)
      own true e = put_own to o p.si into here.1
      own false e = cc
  renamed_has (p ∷ ps) into (inr later) = renamed_has ps (renamed_into from to p into) later

pub drop_keeps : (region r : RegionId) (o : ℤ) (v : Values) → HasOffset r o v → HasOffset r o (drop_region region v)
unfolding drop_region
drop_keeps region r o Top h = tt
drop_keeps region r o (Parts ps) h = cond_both (list_any (λ (p : Part). same_region p.region region) ps) Top (Parts ps) (HasOffset r o) (λ _. tt) (λ _. h)

pub age_keeps : (young old r : RegionId) (o : ℤ) (v : Values) → same_region r young ≡ false → HasOffset r o v → HasOffset r o (age young old v)
unfolding age
age_keeps young old r o Top other h = tt
age_keeps young old r o (Parts ps) other h =
    settled_offset r o (with_renamed young old ps (without_region young ps)) (renamed_keeps r o young old ps (without_region young ps) (other_kept r o young ps other h))

pub age_renames : (young old : RegionId) (o : ℤ) (v : Values) → HasOffset young o v → HasOffset old o (age young old v)
unfolding age
age_renames young old o Top h = tt
age_renames young old o (Parts ps) h =
    settled_offset old o (with_renamed young old ps (without_region young ps)) (renamed_has young old o ps (without_region young ps) h)

pub also_keeps : (old young r : RegionId) (o : ℤ) (v : Values) → HasOffset r o v → HasOffset r o (also old young v)
unfolding also
also_keeps old young r o Top h = tt
also_keeps old young r o (Parts ps) h = settled_offset r o (with_renamed old young ps ps) (renamed_keeps r o old young ps ps h)

pub also_young : (old young : RegionId) (o : ℤ) (v : Values) → HasOffset old o v → HasOffset young o (also old young v)
unfolding also
also_young old young o Top h = tt
also_young old young o (Parts ps) h = settled_offset young o (with_renamed old young ps ps) (renamed_has old young o ps ps h)

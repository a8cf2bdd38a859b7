-- What lies below has no more values.

use Rattle.std.proofs.Common.{◌≡◌, ℕ, true, ◌&&◌, ◌⊎◌, inl, inr, List, [], ◌∷◌}
use Rattle.std.specs.List.{list_all}
use Rattle.std.proofs.lemmas.Bool.{and_parts, or_cases}
use Rattle.image_map.specs.Regions.{same_region}
use Rattle.image_map.proofs.OrderLaws.{same_region-equal}
use Rattle.strided.specs.Operations as interval
use Rattle.strided.proofs.BoundLemmas.{below_iff}
use Rattle.vset.specs.declared.part.Part.{Part}
use Rattle.vset.specs.Values.{Values, Top, Parts, AreCanonical, CanonicalValues}
use Rattle.vset.specs.Operations.{is_part_below, below}
use Rattle.vset.specs.World.{World}
use Rattle.vset.specs.Members.{IsPartMember, IsInParts, HasValue}
use Rattle.strided.specs.Interval.{IsCanonical}
use Rattle.vset.proofs.MemberLemmas.{moved}

module _ (lane : ℕ) (w : World) (n : ℕ) where
  in_greater : (x : Part) (ys : List Part) → IsCanonical x.si → is_part_below ys x ≡ true → IsPartMember lane w n x → IsInParts lane w n ys
  in_greater x [] cx e m = absurd (cc)
  in_greater x (y ∷ ys) cx e m = by_cases (λ later. in_greater x ys cx later m) (or_cases (same_region x.region y.region && interval.below x.si y.si) (is_part_below ys x) e)
    where
      here : (same_region x.region y.region && interval.below x.si y.si) ≡ true → IsPartMember lane w n y
      here is =
          let both = and_parts (same_region x.region y.region) (interval.below x.si y.si) is in
          moved lane w n x y (same_region-equal x.region y.region both.0) ((below_iff x.si y.si cx).0 both.1) m

      by_cases : (is_part_below ys x ≡ true → IsInParts lane w n ys) → ((same_region x.region y.region && interval.below x.si y.si) ≡ true) ⊎ (is_part_below ys x ≡ true) → IsInParts lane w n (y ∷ ys)
      by_cases rest (inl is) = inl (here is)
      by_cases rest (inr later) = inr (rest later)

  in_all : (xs ys : List Part) → AreCanonical xs → list_all (is_part_below ys) xs ≡ true → IsInParts lane w n xs → IsInParts lane w n ys
  in_all [] ys cx e m = absurd m
  in_all (x ∷ xs) ys cx e (inl here) = in_greater x ys cx.0 (and_parts (is_part_below ys x) (list_all (is_part_below ys) xs) e).0 here
  in_all (x ∷ xs) ys cx e (inr later) = in_all xs ys cx.1 (and_parts (is_part_below ys x) (list_all (is_part_below ys) xs) e).1 later

  pub below_has : (a b : Values) → CanonicalValues a → below a b ≡ true → HasValue lane w n a → HasValue lane w n b
  below_has a Top ca e m = tt
  below_has Top (Parts ys) ca e m = absurd (cc)
  below_has (Parts xs) (Parts ys) ca e m = in_all xs ys ca e m

-- What lies below has no more members, whatever form its intervals have.
use Rattle.std.proofs.Common.{◌≡◌, ℕ, ◌%◌, ◌*◌, eqb, true, ◌&&◌, ◌⊎◌, inl, inr, List, [], ◌∷◌}
use Rattle.std.specs.List.{list_all}
use Rattle.std.proofs.Math.Nat.{dvd-mul_left}
use Rattle.std.proofs.lemmas.Bool.{and_parts, or_cases, false≢true}
use Rattle.image_map.specs.Regions.{same_region}
use Rattle.image_map.proofs.OrderLaws.{same_region-equal}
use Rattle.strided.specs.Interval.{Interval, IsMember, IsBelow}
use Rattle.strided.specs.Operations.{has, below as interval_below}
use Rattle.strided.proofs.BoundLemmas.{has_iff}
use Rattle.strided.proofs.MemberLemmas.{member_within, divides_tells}
use Rattle.vset.specs.declared.part.Part.{Part}
use Rattle.vset.specs.Members.{IsPartMember, IsInParts, HasValue}
use Rattle.vset.specs.Operations.{is_part_below, below}
use Rattle.vset.specs.Values.{Values, Top, Parts}
use Rattle.vset.specs.World.{World}
use Rattle.vset.proofs.MemberLemmas.{moved}

pub less_members : (a b : Interval) → interval_below a b ≡ true → IsBelow a b
unfolding interval_below
less_members a b e v h =
    let parts = and_parts (has b a.lo && has b a.hi) (eqb (a.stride % b.stride) 0) e in
    let ends = and_parts (has b a.lo) (has b a.hi) parts.0 in
    let low : IsMember a.lo b = (has_iff b a.lo).0 ends.0 in
    let high : IsMember a.hi b = (has_iff b a.hi).0 ends.1 in
    member_within v a b.stride (low.turns * b.stride) b.lo b.hi h low.reached high.in_range (dvd-mul_left b.stride low.turns) ((divides_tells b.stride a.stride).0 parts.1)

module _ (lane : ℕ) (w : World) (n : ℕ) where
  in_greater : (x : Part) (ys : List Part) → is_part_below ys x ≡ true → IsPartMember lane w n x → IsInParts lane w n ys
  in_greater x [] e m = absurd (false≢true e)
  in_greater x (y ∷ ys) e m = by_cases (λ later. in_greater x ys later m) (or_cases (same_region x.region y.region && interval_below x.si y.si) (is_part_below ys x) e)
    where
      by_cases : (is_part_below ys x ≡ true → IsInParts lane w n ys) → ((same_region x.region y.region && interval_below x.si y.si) ≡ true) ⊎ (is_part_below ys x ≡ true) → IsInParts lane w n (y ∷ ys)
      by_cases rest (inl is) =
          let both = and_parts (same_region x.region y.region) (interval_below x.si y.si) is in
          inl (moved lane w n x y (same_region-equal x.region y.region both.0) (less_members x.si y.si both.1) m)
      by_cases rest (inr later) = inr (rest later)

  in_all : (xs ys : List Part) → list_all (is_part_below ys) xs ≡ true → IsInParts lane w n xs → IsInParts lane w n ys
  in_all [] ys e m = absurd m
  in_all (x ∷ xs) ys e (inl here) = in_greater x ys (and_parts (is_part_below ys x) (list_all (is_part_below ys) xs) e).0 here
  in_all (x ∷ xs) ys e (inr later) = in_all xs ys (and_parts (is_part_below ys x) (list_all (is_part_below ys) xs) e).1 later

  pub less_has : (a b : Values) → below a b ≡ true → HasValue lane w n a → HasValue lane w n b
  less_has a Top e m = tt
  less_has Top (Parts ys) e m = absurd (false≢true e)
  less_has (Parts xs) (Parts ys) e m = in_all xs ys e m

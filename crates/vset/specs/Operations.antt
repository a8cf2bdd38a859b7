-- One formula over lists of parts for each operation on value-sets. They are the project's own.

use Rattle.std.specs.Prelude.{ℕ, ◌==◌, Bool, true, false, List, [], ◌∷◌, ◌&&◌, not, if◌then◌else◌, Option, Some, None, map, filter}
use Rattle.std.specs.Ordering.{int_eq}
use Rattle.std.specs.List.{list_any, list_all, flat_map}
use Rattle.image_map.specs.declared.region.RegionId.{RegionId}
use Rattle.image_map.specs.declared.region.RegionId.TheVariants.{Global, Frame, OldFrame, Heap, OldHeap}
use Rattle.image_map.specs.Regions.{same_region, region_before}
use Rattle.strided.specs.Interval.{Interval}
use Rattle.strided.specs.Operations as interval
use Rattle.vset.specs.declared.part.Part.{Part}
use Rattle.vset.specs.declared.part.Both.{Both}
use Rattle.vset.specs.declared.part.Both.TheVariants.{Joined, Widened}
use Rattle.vset.specs.declared.sums.Pairing.{Pairing}
use Rattle.vset.specs.declared.sums.Pairing.TheVariants.{Sum, Difference}
use Rattle.vset.specs.Values.{Values, Top, Parts, settled}

abbrev pub part : RegionId → Interval → Part
part region si = record { region = region; si = si }

-- -- Parts of both

-- the interval of both: joined, or the first widened by the second
abbrev pub both_of : Both → Interval → Interval → Interval
both_of Joined a b = interval.join a b
both_of Widened a b = interval.widen a b

-- a part among parts in order: where its region has a part, that part is the interval of both
unfoldable pub with_part : Both → Part → List Part → List Part
with_part both p [] = p ∷ []
with_part both p (x ∷ xs) =
    (if region_before x.region p.region then x ∷ with_part both p xs
    else (if same_region x.region p.region then part x.region (both_of both x.si p.si) ∷ xs
    else p ∷ x ∷ xs))

-- some parts, each put among the others
unfoldable pub with_parts : Both → List Part → List Part → List Part
with_parts both [] into = into
with_parts both (p ∷ ps) into = with_parts both ps (with_part both p into)

abbrev pub of_both : Both → Values → Values → Values
of_both both Top b = Top
of_both both (Parts xs) Top = Top
of_both both (Parts xs) (Parts ys) = settled (with_parts both ys xs)

-- the values of both
unfoldable pub join : Values → Values → Values
join a b = of_both Joined a b

-- the values of both, where an end that b passes goes as far as the words do
unfoldable pub widen : Values → Values → Values
widen a b = of_both Widened a b

-- -- Sums and differences

-- the region of a sum: that of the operand that is no number
abbrev pub sum_region : RegionId → RegionId → Option RegionId
sum_region Global r = Some r
sum_region (Frame p) Global = Some (Frame p)
sum_region (OldFrame p) Global = Some (OldFrame p)
sum_region (Heap k) Global = Some (Heap k)
sum_region (OldHeap k) Global = Some (OldHeap k)
sum_region _ _ = None

-- the numbers between two offsets in the newest activation of one procedure, since that is one activation
abbrev pub frame_difference : ℕ → RegionId → Option RegionId
frame_difference q (Frame p) = (if p == q then Some Global else None)
frame_difference q _ = None

-- the region of a difference: that of the first operand where the second is a number
abbrev pub difference_region : RegionId → RegionId → Option RegionId
difference_region a Global = Some a
difference_region a (Frame q) = frame_difference q a
difference_region a (OldFrame q) = None
difference_region a (Heap k) = None
difference_region a (OldHeap k) = None

abbrev pub in_region : Option RegionId → Interval → Option Part
in_region None si = None
in_region (Some region) si = Some (part region si)

-- the part that is made of two
abbrev pub pair_of : Pairing → Part → Part → Option Part
pair_of Sum x y = in_region (sum_region x.region y.region) (interval.add x.si y.si)
pair_of Difference x y = in_region (difference_region x.region y.region) (interval.sub x.si y.si)

-- what is made of all pairs, row by row
abbrev pub pairs : Pairing → List Part → List Part → List (Option Part)
pairs pairing xs ys = flat_map (λ x. map (pair_of pairing x) ys) xs

-- some results joined into parts, or none where one of them is none
unfoldable pub gathered : List Part → List (Option Part) → Option (List Part)
gathered into [] = Some into
gathered into (None ∷ rest) = None
gathered into (Some p ∷ rest) = gathered (with_part Joined p into) rest

abbrev pub settled_or_top : Option (List Part) → Values
settled_or_top None = Top
settled_or_top (Some ps) = settled ps

-- the results of all pairs, joined
abbrev pub combined : Pairing → Values → Values → Values
combined pairing Top b = Top
combined pairing (Parts xs) Top = Top
combined pairing (Parts xs) (Parts ys) = settled_or_top (gathered [] (pairs pairing xs ys))

unfoldable pub add : Values → Values → Values
add a b = combined Sum a b

unfoldable pub sub : Values → Values → Values
sub a b = combined Difference a b

-- -- Comparing

abbrev pub same_interval : Interval → Interval → Bool
same_interval a b = a.stride == b.stride && int_eq a.lo b.lo && int_eq a.hi b.hi

abbrev pub same_part : Part → Part → Bool
same_part x y = same_region x.region y.region && same_interval x.si y.si

unfoldable pub same_parts : List Part → List Part → Bool
same_parts [] [] = true
same_parts [] (y ∷ ys) = false
same_parts (x ∷ xs) [] = false
same_parts (x ∷ xs) (y ∷ ys) = same_part x y && same_parts xs ys

abbrev pub same_values : Values → Values → Bool
same_values Top Top = true
same_values Top (Parts ys) = false
same_values (Parts xs) Top = false
same_values (Parts xs) (Parts ys) = same_parts xs ys

-- a part lies within one of the parts
abbrev pub is_part_below : List Part → Part → Bool
is_part_below ys x = list_any (λ y. same_region x.region y.region && interval.below x.si y.si) ys

abbrev pub below : Values → Values → Bool
below a Top = true
below Top (Parts ys) = false
below (Parts xs) (Parts ys) = list_all (is_part_below ys) xs

-- -- Regions that age

-- the parts of other regions
abbrev pub without_region : RegionId → List Part → List Part
without_region region ps = filter (λ p. not (same_region p.region region)) ps

-- a part put among others under another region's name, if it is of this region
abbrev pub renamed_into : RegionId → RegionId → Part → List Part → List Part
renamed_into from to p into = (if same_region p.region from then with_part Joined (part to p.si) into else into)

-- each part of a region put among others under another region's name
unfoldable pub with_renamed : RegionId → RegionId → List Part → List Part → List Part
with_renamed from to [] into = into
with_renamed from to (p ∷ ps) into = with_renamed from to ps (renamed_into from to p into)

-- no longer known where the region has a part
unfoldable pub drop_region : RegionId → Values → Values
drop_region region Top = Top
drop_region region (Parts ps) = (if list_any (λ p. same_region p.region region) ps then Top else Parts ps)

-- the young part is renamed and joined to the old one
unfoldable pub age : RegionId → RegionId → Values → Values
age young old Top = Top
age young old (Parts ps) = settled (with_renamed young old ps (without_region young ps))

-- the young part has the old one's offsets too
unfoldable pub also : RegionId → RegionId → Values → Values
also old young Top = Top
also old young (Parts ps) = settled (with_renamed old young ps ps)

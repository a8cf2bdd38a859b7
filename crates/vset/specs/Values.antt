-- Value-sets: for each region the offsets that a value may have there. They are the project's own.

use Rattle.std.specs.Prelude.{◌≡◌, nat_lt, ◌==◌, ◌||◌, ◌&&◌, Bool, true, false, List, [], ◌∷◌, length, if◌then◌else◌, Option, Some, None}
use Rattle.std.specs.List.{list_any}
use Rattle.std.specs.Ordering.{int_eq}
use Rattle.image_map.specs.declared.region.RegionId.{RegionId}
use Rattle.image_map.specs.declared.region.RegionId.TheVariants.{Global}
use Rattle.image_map.specs.Regions.{same_region, region_before}
use Rattle.strided.specs.Interval.{Interval, IsCanonical, least, greatest}
use Rattle.vset.specs.declared.part.Part.{Part}

-- every value, or the offsets of some regions
pub data Values : Type 0 where
  Top : Values
  Parts : List Part → Values

-- whether an interval is every word
abbrev pub is_full : Interval → Bool
is_full a = int_eq a.lo least && int_eq a.hi greatest && a.stride == 1

-- whether some parts are no more than every value: one of them is full, or they are more than eight
abbrev pub says_nothing : List Part → Bool
says_nothing ps = list_any (λ p. is_full p.si) ps || nat_lt 8 (length ps)

-- the value-set of some parts in order
unfoldable pub settled : List Part → Values
settled ps = (if says_nothing ps then Top else Parts ps)

-- the first part's region doesn't stand before a region
abbrev pub IsFrom : RegionId → List Part → Type 0
IsFrom region [] = Unit {0}
IsFrom region (p ∷ ps) = region_before p.region region ≡ false

-- each part's region stands before the regions that follow
abbrev pub IsAbove : RegionId → List Part → Type 0
IsAbove region [] = Unit {0}
IsAbove region (p ∷ ps) = region_before region p.region ≡ true

abbrev pub IsRising : List Part → Type 0
IsRising [] = Unit {0}
IsRising (p ∷ ps) = IsAbove p.region ps × IsRising ps

abbrev pub AreCanonical : List Part → Type 0
AreCanonical [] = Unit {0}
AreCanonical (p ∷ ps) = IsCanonical p.si × AreCanonical ps

-- intervals of the one form
abbrev pub CanonicalValues : Values → Type 0
CanonicalValues Top = Unit {0}
CanonicalValues (Parts ps) = AreCanonical ps

-- the one form of a value-set
abbrev pub IsNormal : Values → Type 0
IsNormal Top = Unit {0}
IsNormal (Parts ps) = IsRising ps × AreCanonical ps × (says_nothing ps ≡ false)

-- the offsets where Global is the one region
abbrev pub only_number : Values → Option Interval
only_number (Parts (p ∷ [])) = (if same_region p.region Global then Some p.si else None)
only_number _ = None

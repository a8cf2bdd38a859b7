-- Which words are values of a value-set in a run. They are the project's own.

use Rattle.std.specs.Prelude.{◌≡◌, ℕ, ℤ, pos, ◌+ℤ◌, ◌≤ℤ◌, ◌⊎◌, List, [], ◌∷◌}
use Rattle.strided.specs.Concrete.{signed}
use Rattle.strided.specs.Interval.{IsMember, least, greatest}
use Rattle.image_map.specs.declared.region.RegionId.{RegionId}
use Rattle.vset.specs.declared.part.Part.{Part}
use Rattle.vset.specs.Values.{Values, Top, Parts}
use Rattle.vset.specs.World.{World, Thing, IsIn, base_of, region_of}

-- a word that is an offset from the base of one of the region's things
pub record IsPartMember (lane : ℕ) (w : World) (n : ℕ) (p : Part) : Type 0 where
  pub thing : Thing
  pub is_in : IsIn w thing
  pub region : region_of lane thing ≡ p.region
  pub offset : ℤ
  pub within : IsMember offset p.si
  pub low : least ≤ℤ offset
  pub high : offset ≤ℤ greatest
  pub reached : signed (pos n) ≡ signed (pos (base_of thing) +ℤ offset)

abbrev pub IsInParts : ℕ → World → ℕ → List Part → Type 0
IsInParts lane w n [] = ⊥
IsInParts lane w n (p ∷ ps) = IsPartMember lane w n p ⊎ IsInParts lane w n ps

-- a word is a value of a value-set
abbrev pub HasValue : ℕ → World → ℕ → Values → Type 0
HasValue lane w n Top = Unit {0}
HasValue lane w n (Parts ps) = IsInParts lane w n ps

-- -- Offsets

abbrev pub IsOffset : RegionId → ℤ → List Part → Type 0
IsOffset region o [] = ⊥
IsOffset region o (p ∷ ps) = ((p.region ≡ region) × IsMember o p.si) ⊎ IsOffset region o ps

-- an offset that a value-set has in a region
abbrev pub HasOffset : RegionId → ℤ → Values → Type 0
HasOffset region o Top = Unit {0}
HasOffset region o (Parts ps) = IsOffset region o ps

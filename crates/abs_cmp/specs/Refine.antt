-- A value-set under a condition on the comparison of its value. The definition is the project's own.

use Rattle.std.specs.Prelude.{ℕ, Bool, if◌then◌else◌, List, [], ◌∷◌, Option, Some, None}
use Rattle.std.specs.List.{filter_map}
use Rattle.strided.specs.Interval.{Interval, full}
use Rattle.image_map.specs.declared.region.RegionId.TheVariants.{Global}
use Rattle.image_map.specs.Regions.{same_region}
use Rattle.vset.specs.declared.part.Part.{Part}
use Rattle.vset.specs.Operations.{part}
use Rattle.vset.specs.Values.{Values, Top, Parts, settled}
use Rattle.abs_cmp.specs.Rows.{row, held}

-- the part of numbers, where some are left
abbrev pub numbers : Option Interval → Option Part
numbers None = None
numbers (Some x) = Some (part Global x)

-- the numbers are refined, and offsets in other regions stay
abbrev pub refined_part : ℕ → Interval → Part → Option Part
refined_part condition bound p = if same_region p.region Global then numbers (row condition p.si bound) else Some p

abbrev pub refined_parts : ℕ → Interval → List Part → Values
refined_parts condition bound ps = settled (filter_map (refined_part condition bound) ps)

-- every value is taken as every number
abbrev pub refined : ℕ → Interval → Values → Values
refined condition bound Top = refined_parts condition bound (part Global full ∷ [])
refined condition bound (Parts ps) = refined_parts condition bound ps

-- the values for which a test of the condition may have come out so, where the comparison was with some member of the bound
unfoldable pub refine : ℕ → Bool → Interval → Values → Values
refine condition taken bound v = refined (held condition taken) bound v

-- Cuts in their order as lists, one for each region. The project's own.
use Rattle.std.specs.Prelude.{◌↔◌, ◌<◌, ℤ, if◌then◌else◌, List, [], ◌∷◌, length, Contains}
use Rattle.image_map.specs.declared.region.RegionId.{RegionId}
use Rattle.image_map.specs.Regions.{same_region}
use Rattle.alocs.specs.declared.cells.CutList.{CutList}
use Rattle.asi_cuts.specs.declared.set.Cut.{Cut}
use Rattle.asi_cuts.specs.Cuts.{HasCut}
use Rattle.asi_cuts.specs.Closed.{ListsRise}

-- the offsets of the cuts of a region with which these begin
abbrev pub run : RegionId → List Cut → List ℤ
run r [] = []
run r (x ∷ xs) = if same_region x.region r then x.offset ∷ run r xs else []

-- the lists have just these cuts
pub record AreListsOf (cuts : List Cut) (lists : List CutList) : Type 0 where
  pub rise : ListsRise lists
  pub some : (l : CutList) → Contains lists l → 0 < length l.cuts
  pub each : (x : Cut) → HasCut lists x.region x.offset ↔ Contains cuts x

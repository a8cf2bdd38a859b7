-- What holds the kept cuts and follows each fact. The project's own.
use Rattle.std.specs.Prelude.{ℕ, ◌≡◌, ℤ, pos, ◌+ℤ◌, ◌<ℤ◌, true, List, Contains}
use Rattle.image_map.specs.declared.image.Segment.{Segment}
use Rattle.image_map.specs.declared.region.RegionId.{RegionId}
use Rattle.alocs.specs.declared.cells.CutList.{CutList}
use Rattle.asi_cuts.specs.declared.facts.Constraint.{Constraint}
use Rattle.asi_cuts.specs.Cuts.{Carries, HasCut, Makes, lies_in}

-- whatever P says of cuts, it holds of the kept ones, of those that a fact makes, and of those that a fact makes of such as P holds of
pub record Follows (kept : List CutList) (facts : List Constraint) (segments : List Segment) (P : RegionId → ℤ → Type 0) : Type 0 where
  pub kept_cuts : (r : RegionId) (offset : ℤ) → HasCut kept r offset → lies_in segments r offset ≡ true → P r offset
  pub made_cuts : (f : Constraint) (r : RegionId) (offset : ℤ) → Contains facts f → Makes f r offset → lies_in segments r offset ≡ true → P r offset
  pub carried_cuts : (f : Constraint) (q : RegionId) (cut : ℤ) (r : RegionId) (offset : ℤ) → Contains facts f → Carries f q cut r offset → P q cut → lies_in segments r offset ≡ true → P r offset

-- an offset between the ends of a range, and at neither
abbrev pub IsWithin : ℤ → ℕ → ℤ → Type 0
IsWithin start len offset = (start <ℤ offset) × (offset <ℤ (start +ℤ pos len))

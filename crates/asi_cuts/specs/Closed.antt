-- What `close` answers. The project's own.
use Rattle.std.specs.Prelude.{◌<◌, ◌≡◌, ◌↔◌, ℤ, Bool, true, length, List, [], ◌∷◌, Contains}
use Rattle.std.specs.declared.cmp.Ordering.{Ordering}
use Rattle.std.specs.Ordering.{int_cmp, on, then_cmp, is_eq, is_lt}
use Rattle.image_map.specs.declared.image.Segment.{Segment}
use Rattle.image_map.specs.declared.region.RegionId.{RegionId}
use Rattle.image_map.specs.Regions.{region_cmp, region_before}
use Rattle.alocs.specs.declared.cells.CutList.{CutList}
use Rattle.alocs.specs.Cells.{AreRising}
use Rattle.asi_cuts.specs.declared.set.Cut.{Cut}
use Rattle.asi_cuts.specs.declared.facts.Constraint.{Constraint}
use Rattle.asi_cuts.specs.declared.lists.CutResult.{CutResult}
use Rattle.asi_cuts.specs.declared.lists.CutResult.TheVariants.{Cuts, TooMany}
use Rattle.asi_cuts.specs.Cuts.{HasCut, IsCut}

-- cuts stand by their regions, then by their offsets
unfoldable pub cut_cmp : Cut → Cut → Ordering
cut_cmp a b = then_cmp (on (λ (c : Cut). c.region) region_cmp) (on (λ (c : Cut). c.offset) int_cmp) a b

abbrev pub cut_before : Cut → Cut → Bool
cut_before a b = is_lt (cut_cmp a b)

abbrev pub same_cut : Cut → Cut → Bool
same_cut a b = is_eq (cut_cmp a b)

abbrev pub RiseBehind : Cut → List Cut → Type 0
RiseBehind low [] = Unit {0}
RiseBehind low (x ∷ xs) = (cut_before low x ≡ true) × RiseBehind x xs

-- each cut stands before the next, so that none stands twice
abbrev pub AreDifferent : List Cut → Type 0
AreDifferent [] = Unit {0}
AreDifferent (x ∷ xs) = RiseBehind x xs

abbrev pub ListsRiseBehind : RegionId → List CutList → Type 0
ListsRiseBehind low [] = Unit {0}
ListsRiseBehind low (l ∷ ls) = (region_before low l.region ≡ true) × AreRising l.cuts × ListsRiseBehind l.region ls

-- the lists stand by their regions, and the cuts of each rise
abbrev pub ListsRise : List CutList → Type 0
ListsRise [] = Unit {0}
ListsRise (l ∷ ls) = AreRising l.cuts × ListsRiseBehind l.region ls

-- The lists of just the cuts that kept lists and facts force: a rising list for each region that is cut.
pub record AreLeast (kept : List CutList) (facts : List Constraint) (segments : List Segment) (lists : List CutList) : Type 0 where
  pub rise : ListsRise lists
  pub some : (l : CutList) → Contains lists l → 0 < length l.cuts
  pub each : (r : RegionId) (offset : ℤ) → HasCut lists r offset ↔ IsCut kept facts segments r offset

-- more than 1,024 different cuts are forced
pub record AreTooMany (kept : List CutList) (facts : List Constraint) (segments : List Segment) : Type 0 where
  pub cuts : List Cut
  pub different : AreDifferent cuts
  pub many : 1024 < length cuts
  pub each : (x : Cut) → Contains cuts x → IsCut kept facts segments x.region x.offset

abbrev pub Answers : List CutList → List Constraint → List Segment → CutResult → Type 0
Answers kept facts segments TooMany = AreTooMany kept facts segments
Answers kept facts segments (Cuts lists) = AreLeast kept facts segments lists × ¬ AreTooMany kept facts segments

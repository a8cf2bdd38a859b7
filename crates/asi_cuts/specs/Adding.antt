-- How a set of cuts grows. The project's own.
use Rattle.std.specs.Prelude.{ℕ, ◌<◌, ◌≤◌, ◌≡◌, ◌⊎◌, ℤ, pos, ◌+ℤ◌, true, Option, Some, List, ◌++◌, length, Contains}
use Rattle.std.specs.declared.result.Result.{Result}
use Rattle.std.specs.declared.result.Result.TheVariants.{Ok, Err}
use Rattle.image_map.specs.declared.image.Segment.{Segment}
use Rattle.image_map.specs.declared.region.RegionId.{RegionId}
use Rattle.alocs.specs.declared.cells.CutList.{CutList}
use Rattle.asi_cuts.specs.declared.set.Cut.{Cut}
use Rattle.asi_cuts.specs.declared.set.Halt.{Halt}
use Rattle.asi_cuts.specs.declared.set.Halt.TheVariants.{TooMany, Memory}
use Rattle.asi_cuts.specs.declared.facts.Constraint.{Constraint}
use Rattle.asi_cuts.specs.declared.rows.Row.{Row}
use Rattle.asi_cuts.specs.Cuts.{Carries, IsCut, Makes, element, lies_in, spans}
use Rattle.image_map.specs.Whole.{end_of}

-- more cuts stand behind the old ones, each as P says
pub record Grows (P : Cut → Type 0) (old new : List Cut) : Type 0 where
  pub more : List Cut
  pub is : new ≡ old ++ more
  pub each : (x : Cut) → Contains more x → P x

-- each cut that P names is added, unless there are more than 1,024 cuts
abbrev pub Adds : (Cut → Type 0) → List Cut → List Cut → Result (Unit {0}) Halt → Type 0
Adds P old new (Ok unit) = Grows P old new × ((x : Cut) → P x → Contains new x) × (length new ≤ 1024)
Adds P old new (Err TooMany) = Grows P old new × (1024 < length new)
Adds P old new (Err Memory) = Unit {0}

-- a cut of a row of them
abbrev pub IsOf : Row → Cut → Type 0
IsOf row x = (x.region ≡ row.region) × ((k : ℕ) × (k < row.count) × (x.offset ≡ element row.start row.stride k +ℤ pos row.shift))

-- the same within its region
abbrev pub IsIn : List Segment → (Cut → Type 0) → Cut → Type 0
IsIn segments P x = P x × (lies_in segments x.region x.offset ≡ true)

-- a cut that one of these items names
abbrev pub IsOfAny : {Y : Type 0} → (Y → Cut → Type 0) → List Y → Cut → Type 0
IsOfAny {Y} Q ys x = (y : Y) × Contains ys y × Q y x

-- one cut
abbrev pub IsAt : RegionId → ℤ → Cut → Type 0
IsAt r offset x = (x.region ≡ r) × (x.offset ≡ offset)

abbrev pub IsMadeBy : Constraint → Cut → Type 0
IsMadeBy f x = Makes f x.region x.offset

abbrev pub IsCarriedBy : Cut → Constraint → Cut → Type 0
IsCarriedBy q f x = Carries f q.region q.offset x.region x.offset

-- a cut of the row from low up to high
abbrev pub IsInWindow : Row → ℤ → ℤ → Cut → Type 0
IsInWindow row low high x = IsOf row x × (spans low high x.offset ≡ true)

-- a cut of the row in a segment, or at an end of it
abbrev pub IsInSegment : Row → Segment → Cut → Type 0
IsInSegment row s x = IsInWindow row (pos s.start) (pos (end_of s)) x

-- a cut of one of two rows
abbrev pub IsOfEither : List Segment → Row → Row → Cut → Type 0
IsOfEither segments a b x = IsIn segments (IsOf a) x ⊎ IsIn segments (IsOf b) x

-- a cut at an end of `len` bytes
abbrev pub IsEnd : RegionId → ℤ → ℕ → Cut → Type 0
IsEnd r start len x = (x.region ≡ r) × ((x.offset ≡ start) ⊎ (x.offset ≡ start +ℤ pos len))

-- a kept cut
abbrev pub IsKept : List Segment → List CutList → Cut → Type 0
IsKept segments kept = IsOfAny (λ (l : CutList). IsOfAny (λ offset. IsIn segments (IsAt l.region offset)) l.cuts) kept

-- a cut that one of the facts makes
abbrev pub IsMade : List Segment → List Constraint → Cut → Type 0
IsMade segments facts = IsOfAny (λ f. IsIn segments (IsMadeBy f)) facts

-- a cut that one of the facts makes of a cut
abbrev pub IsFollowing : List Segment → List Constraint → Cut → Cut → Type 0
IsFollowing segments facts q = IsOfAny (λ f. IsIn segments (IsCarriedBy q f)) facts

abbrev pub IsForced : List Segment → List CutList → List Constraint → Cut → Type 0
IsForced segments kept facts x = IsCut kept facts segments x.region x.offset

-- what stands in a slot is among the cuts
abbrev pub AreKnown : List (Option Cut) → List Cut → Type 0
AreKnown recent cuts = (x : Cut) → Contains recent (Some x) → Contains cuts x

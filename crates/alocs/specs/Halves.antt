-- What a search that halves finds. The project's own.
use Rattle.std.specs.Prelude.{ℕ, zero, suc, ◌+◌, ◌<◌, ◌≡◌, true, length, slice_index_or, ℤ, ◌≤ℤ◌, ◌<ℤ◌, pos, int_lt, Bool, ◌⊎◌, Option, Some, None, List, slice_get, MatchOption}
use Rattle.std.specs.Int.{int_max, int_min}
use Rattle.image_map.specs.declared.image.Segment.{Segment}
use Rattle.image_map.specs.declared.region.Cell.{Cell}
use Rattle.image_map.specs.Regions.{region_before}
use Rattle.image_map.specs.Whole.{end_of}
use Rattle.strided.specs.Interval.{Interval, IsMember}
use Rattle.alocs.specs.declared.cells.CutList.{CutList}
use Rattle.alocs.specs.declared.extents.Extent.{Extent}

-- an extent shares no offset with a segment
abbrev pub IsClearOf : Segment → Extent → Type 0
IsClearOf s x = (x.end ≤ℤ pos s.start) ⊎ (pos (end_of s) ≤ℤ x.start)

-- a start, or a cut where it lies above
abbrev pub raised : ℤ → Option ℤ → ℤ
raised start None = start
raised start (Some cut) = int_max start cut

-- an end, or a cut where it lies below
abbrev pub lowered : ℤ → Option ℤ → ℤ
lowered end None = end
lowered end (Some cut) = int_min end cut

-- the last of the first cuts
abbrev pub before : List ℤ → ℕ → Option ℤ
before cuts zero = None
before cuts (suc passed) = slice_get cuts passed

-- a cell ends above an offset
abbrev pub ends_after : ℤ → Cell → Bool
ends_after offset cell = int_lt offset cell.end

-- the least member that isn't below a bound, or none
abbrev pub IsFirstFrom : Interval → ℤ → Option ℤ → Type 0
IsFirstFrom offsets bound first =
    MatchOption first ((v : ℤ) → IsMember v offsets → v <ℤ bound)
    (λ m. IsMember m offsets × (bound ≤ℤ m) × ((v : ℤ) → IsMember v offsets → bound ≤ℤ v → m ≤ℤ v))

-- the lists stand by their regions
abbrev pub AreByRegion : List CutList → Type 0
AreByRegion lists = (k : ℕ) (d : CutList) → k + 1 < length lists → region_before (slice_index_or lists k d).region (slice_index_or lists (k + 1) d).region ≡ true

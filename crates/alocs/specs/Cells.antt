-- The cells into which cuts divide a region. The project's own.
use Rattle.std.specs.Prelude.{ℕ, zero, suc, ℤ, pos, negsuc, ◌+ℤ◌, ◌≤ℤ◌, ◌<ℤ◌, ◌≡◌, ◌↔◌, Bool, false, ◌&&◌, int_le, int_lt, if◌then◌else◌, Option, Some, None, List, [], ◌∷◌, Contains, find, All}
use Rattle.std.specs.List.{flat_map}
use Rattle.image_map.specs.declared.region.Cell.{Cell}
use Rattle.image_map.specs.declared.region.RegionId.{RegionId}
use Rattle.image_map.specs.declared.region.RegionId.TheVariants.{Global, Frame, OldFrame, Heap, OldHeap}
use Rattle.image_map.specs.Regions.{same_region}
use Rattle.strided.specs.Interval.{Interval, IsMember}
use Rattle.alocs.specs.declared.cells.CutList.{CutList}
use Rattle.alocs.specs.declared.extents.Extent.{Extent}
use Rattle.alocs.specs.Extents.{home, extents}

-- ---- cut lists

-- each cut lies above the one before it, and the first above low
abbrev pub RiseAbove : ℤ → List ℤ → Type 0
RiseAbove low [] = Unit {0}
RiseAbove low (cut ∷ cuts) = (low <ℤ cut) × RiseAbove cut cuts

abbrev pub AreRising : List ℤ → Type 0
AreRising [] = Unit {0}
AreRising (cut ∷ cuts) = RiseAbove cut cuts

-- no list of these is of the region
abbrev pub AreOfOthers : RegionId → List CutList → Type 0
AreOfOthers r lists = All (λ (l : CutList). same_region l.region r ≡ false) lists

-- each list is of a region of its own, and has rising cuts
abbrev pub AreCutLists : List CutList → Type 0
AreCutLists [] = Unit {0}
AreCutLists (l ∷ ls) = AreRising l.cuts × AreOfOthers l.region ls × AreCutLists ls

-- so many offsets, four bytes apart
unfoldable pub words : ℕ → ℤ → List ℤ
words zero from = []
words (suc count) from = from ∷ words count (from +ℤ pos 4)

-- The cuts of a region that has no list: a Frame has the words from -1024 up to 64, and a Heap those from 0 up to 256. Global
-- has its ends alone.
abbrev pub word_cuts : RegionId → List ℤ
word_cuts Global = []
word_cuts (Frame procedure) = words 273 (negsuc 1023)
word_cuts (OldFrame procedure) = words 273 (negsuc 1023)
word_cuts (Heap key) = words 65 (pos 0)
word_cuts (OldHeap key) = words 65 (pos 0)

abbrev pub cuts_in : Option CutList → RegionId → List ℤ
cuts_in None r = word_cuts r
cuts_in (Some l) r = l.cuts

-- the cuts of a region, by the list of its newest activation or block
abbrev pub cuts_of : List CutList → RegionId → List ℤ
cuts_of lists r = cuts_in (find (λ (l : CutList). same_region l.region (home r)) lists) r

-- ---- cells

-- The cells of an extent from `start` up to `end`: each cut between the two ends one cell and begins the next. Both ends count
-- as cuts, and cuts outside are left out.
abbrev pub cells_from : RegionId → ℤ → List ℤ → ℤ → List Cell
cells_from r start [] end = record { region = r; start = start; end = end } ∷ []
cells_from r start (cut ∷ cuts) end =
    if int_lt start cut && int_lt cut end then record { region = r; start = start; end = cut } ∷ cells_from r cut cuts end else cells_from r start cuts end

-- the cells of a region with these extents and cuts
abbrev pub cells_in : RegionId → List Extent → List ℤ → List Cell
cells_in r xs cuts = flat_map (λ (x : Extent). cells_from r x.start cuts x.end) xs

-- what tells all cells: the lists of cuts, and the extents of the image
pub record Division : Type 0 where
  pub lists : List CutList
  pub image : List Extent

abbrev pub cells_of : Division → RegionId → List Cell
cells_of d r = cells_in r (extents d.image r) (cuts_of d.lists r)

-- an offset lies in a cell
abbrev pub holds : ℤ → Cell → Bool
holds offset cell = int_le cell.start offset && int_lt offset cell.end

-- ---- what touches a cell

-- a range of `len` bytes from a member of the interval shares a byte with the cell
pub record IsTouched (offsets : Interval) (len : ℕ) (cell : Cell) : Type 0 where
  pub from : ℤ
  pub member : IsMember from offsets
  pub below_end : from <ℤ cell.end
  pub past_start : cell.start <ℤ (from +ℤ pos len)

-- the cells aren't empty, and each begins at or behind the end of the one before it, the first at or behind low
abbrev pub CellsRise : ℤ → List Cell → Type 0
CellsRise low [] = Unit {0}
CellsRise low (c ∷ cs) = (low ≤ℤ c.start) × (c.start <ℤ c.end) × CellsRise c.end cs

-- The touched cells among some: each once, rising.
pub record AreTouched (cells : List Cell) (offsets : Interval) (len : ℕ) (touched : List Cell) : Type 0 where
  pub rise : CellsRise (negsuc 2147483647) touched
  pub each : (c : Cell) → Contains touched c ↔ (Contains cells c × IsTouched offsets len c)

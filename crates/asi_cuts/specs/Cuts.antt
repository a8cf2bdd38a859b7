-- The cuts that accesses force on regions of memory: the least set that holds the kept cuts and follows each fact. The project's own.
use Rattle.std.specs.Prelude.{ℕ, ◌+◌, ◌*◌, ◌<◌, ◌≡◌, ◌⊎◌, ℤ, pos, negsuc, ◌+ℤ◌, Bool, true, ◌&&◌, int_le, ◌==◌, if◌then◌else◌, List, Contains}
use Rattle.std.specs.List.{list_any}
use Rattle.image_map.specs.declared.image.Segment.{Segment}
use Rattle.image_map.specs.declared.region.RegionId.{RegionId}
use Rattle.image_map.specs.declared.region.RegionId.TheVariants.{Global, Frame, OldFrame, Heap, OldHeap}
use Rattle.image_map.specs.Whole.{end_of}
use Rattle.alocs.specs.declared.cells.CutList.{CutList}
use Rattle.asi_cuts.specs.declared.facts.Constraint.{Constraint}
use Rattle.asi_cuts.specs.declared.facts.Constraint.TheVariants.{Bounds, Elements, Same}

-- an offset from low up to high
abbrev pub spans : ℤ → ℤ → ℤ → Bool
spans low high offset = int_le low offset && int_le offset high

-- An offset lies in a region, or at an end of it. Global is the segments of the image, a Frame reaches from -2^20 up to 2^16, and
-- a block of the heap up to 2^29.
abbrev pub lies_in : List Segment → RegionId → ℤ → Bool
lies_in segments Global offset = list_any (λ (s : Segment). spans (pos s.start) (pos (end_of s)) offset) segments
lies_in segments (Frame procedure) offset = spans (negsuc 1048575) (pos 65536) offset
lies_in segments (OldFrame procedure) offset = spans (negsuc 1048575) (pos 65536) offset
lies_in segments (Heap key) offset = spans (pos 0) (pos 536870912) offset
lies_in segments (OldHeap key) offset = spans (pos 0) (pos 536870912) offset

-- a region is cut at an offset by one of these lists
abbrev pub HasCut : List CutList → RegionId → ℤ → Type 0
HasCut lists r offset = (l : CutList) × Contains lists l × (r ≡ l.region) × Contains l.cuts offset

-- the offset of an element's first byte
abbrev pub element : ℤ → ℕ → ℕ → ℤ
element start stride number = start +ℤ pos (number * stride)

-- an element reaches as far as the next begins, and the last one as far as it is long
abbrev pub reach : ℕ → ℕ → ℕ → ℕ → ℕ
reach stride count len number = if number + 1 == count then len else stride

-- The cuts that a fact makes by itself: at both ends of a range; at both ends of each element; at both ends of two ranges.
abbrev pub Makes : Constraint → RegionId → ℤ → Type 0
Makes (Bounds region start end) r offset = (r ≡ region) × ((offset ≡ start) ⊎ (offset ≡ end))
Makes (Elements region start stride count len) r offset =
    (r ≡ region) × ((k : ℕ) × (k < count) × ((offset ≡ element start stride k) ⊎ (offset ≡ element start stride k +ℤ pos len)))
Makes (Same a a_start b b_start len) r offset =
    ((r ≡ a) × ((offset ≡ a_start) ⊎ (offset ≡ a_start +ℤ pos len))) ⊎ ((r ≡ b) × ((offset ≡ b_start) ⊎ (offset ≡ b_start +ℤ pos len)))

-- a cut inside one element stands as far inside another that reaches so far
pub record IsRepeated (start : ℤ) (stride count len : ℕ) (cut offset : ℤ) : Type 0 where
  pub from : ℕ
  pub to : ℕ
  pub distance : ℕ
  pub from_counts : from < count
  pub to_counts : to < count
  pub inside : 0 < distance
  pub from_reaches : distance < reach stride count len from
  pub to_reaches : distance < reach stride count len to
  pub at : cut ≡ element start stride from +ℤ pos distance
  pub is : offset ≡ element start stride to +ℤ pos distance

-- a cut inside the range of `len` bytes at one place stands as far inside the range at the other
pub record IsMoved (a : RegionId) (a_start : ℤ) (b : RegionId) (b_start : ℤ) (len : ℕ) (q : RegionId) (cut : ℤ) (r : RegionId) (offset : ℤ) : Type 0 where
  pub distance : ℕ
  pub inside : 0 < distance
  pub reaches : distance < len
  pub there : q ≡ a
  pub at : cut ≡ a_start +ℤ pos distance
  pub here : r ≡ b
  pub is : offset ≡ b_start +ℤ pos distance

-- the cuts that a fact makes of a cut
abbrev pub Carries : Constraint → RegionId → ℤ → RegionId → ℤ → Type 0
Carries (Bounds region start end) q cut r offset = ⊥
Carries (Elements region start stride count len) q cut r offset = (q ≡ region) × (r ≡ region) × IsRepeated start stride count len cut offset
Carries (Same a a_start b b_start len) q cut r offset = IsMoved a a_start b b_start len q cut r offset ⊎ IsMoved b b_start a a_start len q cut r offset

-- Where a region is cut, by kept lists and facts: a kept cut, a cut that a fact makes, and one that a fact makes of another cut, each
-- where it lies in its region; and nothing else.
pub data IsCut (kept : List CutList) (facts : List Constraint) (segments : List Segment) : RegionId → ℤ → Type 0 where
  keeps : {r : RegionId} {offset : ℤ} → HasCut kept r offset → lies_in segments r offset ≡ true → IsCut kept facts segments r offset
  makes : {f : Constraint} {r : RegionId} {offset : ℤ} → Contains facts f → Makes f r offset → lies_in segments r offset ≡ true → IsCut kept facts segments r offset
  carries : {f : Constraint} {q r : RegionId} {cut offset : ℤ} → Contains facts f → Carries f q cut r offset → IsCut kept facts segments q cut → lies_in segments r offset ≡ true
      → IsCut kept facts segments r offset

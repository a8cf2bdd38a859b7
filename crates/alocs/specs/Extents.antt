-- The offsets that a region has. The project's own.
use Rattle.std.specs.Prelude.{◌<◌, ℤ, pos, negsuc, ◌≤ℤ◌, ◌<ℤ◌, ◌≡◌, ◌↔◌, Bool, ◌&&◌, int_le, int_lt, List, [], ◌∷◌, Contains, length}
use Rattle.std.specs.List.{list_any}
use Rattle.image_map.specs.declared.image.Segment.{Segment}
use Rattle.image_map.specs.declared.region.RegionId.{RegionId}
use Rattle.image_map.specs.declared.region.RegionId.TheVariants.{Global, Frame, OldFrame, Heap, OldHeap}
use Rattle.image_map.specs.Whole.{end_of}
use Rattle.alocs.specs.declared.extents.Extent.{Extent}

-- older activations have the offsets and the cuts of the newest one, and older blocks those of the newest block
abbrev pub home : RegionId → RegionId
home Global = Global
home (Frame procedure) = Frame procedure
home (OldFrame procedure) = Frame procedure
home (Heap key) = Heap key
home (OldHeap key) = Heap key

-- a Frame reaches from -2^20 up to 2^16, around its return slot at 0
abbrev pub frame_extent : Extent
frame_extent = record { start = negsuc 1048575; end = pos 65536 }

-- a block of the heap reaches up to 2^29
abbrev pub heap_extent : Extent
heap_extent = record { start = pos 0; end = pos 536870912 }

-- where the offsets of a region lie, when those of Global lie in these extents
abbrev pub extents : List Extent → RegionId → List Extent
extents image Global = image
extents image (Frame procedure) = frame_extent ∷ []
extents image (OldFrame procedure) = frame_extent ∷ []
extents image (Heap key) = heap_extent ∷ []
extents image (OldHeap key) = heap_extent ∷ []

-- an offset lies in one of the extents
abbrev pub has_offset : List Extent → ℤ → Bool
has_offset xs offset = list_any (λ (x : Extent). int_le x.start offset && int_lt offset x.end) xs

-- the extents aren't empty, and each begins at or behind the end of the one before it, the first at or behind low
abbrev pub RiseFrom : ℤ → List Extent → Type 0
RiseFrom low [] = Unit {0}
RiseFrom low (x ∷ xs) = (low ≤ℤ x.start) × (x.start <ℤ x.end) × RiseFrom x.end xs

-- the segment takes up the extent
pub record Takes (s : Segment) (x : Extent) : Type 0 where
  pub bytes : 0 < length s.bytes
  pub start : x.start ≡ pos s.start
  pub end : x.end ≡ pos (end_of s)

-- The extents of an image, rising: one for each segment that has a byte.
pub record AreOfImage (segments : List Segment) (xs : List Extent) : Type 0 where
  pub rise : RiseFrom (pos 0) xs
  pub each : (x : Extent) → Contains xs x ↔ ((s : Segment) × Contains segments s × Takes s x)

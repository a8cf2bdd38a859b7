-- The memory of an image. Flags: System V ABI, ELF, program header, "Segment flag bits".
use Rattle.std.specs.Prelude.{ℕ, ◌-◌, Bool, false, ◌&&◌, nat_le, nat_lt, ◌==◌, if◌then◌else◌, Option, None, List, length, find, slice_get, bit_and}
use Rattle.std.specs.Option.{option_and_then, option_map_or}
use Rattle.image_map.specs.declared.image.Segment.{Segment}
use Rattle.image_map.specs.declared.spans.Span.{Span}
use Rattle.image_map.specs.Ranges.{is_any}

-- an address lies in a segment from its start on, for as many addresses as it has bytes
abbrev pub holds : ℕ → Segment → Bool
holds a s = nat_le s.start a && nat_lt (a - s.start) (length s.bytes)

-- the segment that holds an address (the first, where several do)
abbrev pub segment_at : List Segment → ℕ → Option Segment
segment_at segments a = find (holds a) segments

-- a segment has a flag bit
abbrev pub has_flag : ℕ → Segment → Bool
has_flag bit s = bit_and s.flags bit == bit

-- an address lies in a segment that has a flag bit
abbrev pub is_in : List Segment → ℕ → ℕ → Bool
is_in segments bit a = option_map_or (has_flag bit) (segment_at segments a) false

-- the byte that the segments have at an address
abbrev pub byte_in : List Segment → ℕ → Option ℕ
byte_in segments a = option_and_then (λ s. slice_get s.bytes (a - s.start)) (segment_at segments a)

-- the byte at an address: none outside the segments, and none where any byte may stand
abbrev pub byte_of : List Segment → List Span → ℕ → Option ℕ
byte_of segments spans a = if is_any spans a then None else byte_in segments a

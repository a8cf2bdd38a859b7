-- The memory of a machine as the segments that have its bytes: the stack, then those of the image, then the blocks. The
-- project's own.
use Rattle.std.specs.Prelude.{◌≡◌, ℕ, ◌+◌, ◌<◌, ◌≤◌, ◌^◌, ◌-◌, ◌*◌, min, Bool, false, List, [], ◌∷◌, Option, Some, None, length, get_or, option_map, replicate}
use Rattle.image_map.specs.declared.image.Segment.{Segment}
use Rattle.image_map.specs.declared.spans.Span.{Span}
use Rattle.image_map.specs.Memory.{holds, byte_in, is_in}
use Rattle.image_map.specs.Whole.{end_of}
use Rattle.ia32_semantics.specs.State.{Bytes, bytes_at, little_endian}

-- the first is the stack
abbrev pub Mapped : Type 0
Mapped = List Segment

-- the byte at each address, and none where the address isn't mapped
abbrev pub bytes_of : Mapped → Bytes
bytes_of segments a = byte_in segments a

-- an address lies in a segment that may be written
abbrev pub is_open_at : Mapped → ℕ → Bool
is_open_at segments a = is_in segments 2 a

abbrev pub is_in_first : Mapped → ℕ → Bool
is_in_first [] a = false
is_in_first (stack ∷ others) a = holds a stack

-- the number that the n bytes from an address on hold, the lowest first, where all are mapped
abbrev pub number_at : Bytes → ℕ → ℕ → Option ℕ
number_at memory n a = option_map little_endian (bytes_at memory a n)

-- the number of two bytes, where both are there
abbrev pub two : Option ℕ → Option ℕ → Option ℕ
two None high = None
two (Some low) None = None
two (Some low) (Some high) = Some (low + 256 * high)

-- the number of two halves of 16 bits, where both are there
abbrev pub four : Option ℕ → Option ℕ → Option ℕ
four None high = None
four (Some low) None = None
four (Some low) (Some high) = Some (low + 65536 * high)

-- numbers below 256
abbrev pub AreBytes : List ℕ → Type 0
AreBytes xs = (k : ℕ) → get_or xs k 0 < 256

abbrev pub HasBytes : Segment → Type 0
HasBytes s = AreBytes s.bytes

abbrev pub HaveBytes : Mapped → Type 0
HaveBytes [] = Unit {0}
HaveBytes (s ∷ ss) = HasBytes s × HaveBytes ss

-- how many of a segment's bytes lie below an address
abbrev pub bytes_below : Segment → ℕ → ℕ
bytes_below s below = min (below - s.start) (length s.bytes)

-- so many bytes of the first segment, from its lowest on, are 0
abbrev pub IsClear : ℕ → Mapped → Type 0
IsClear count [] = ⊥
IsClear count (stack ∷ others) = (k : ℕ) → k < count → get_or stack.bytes k 0 ≡ 0

-- no segment passes the end of the addresses
abbrev pub AreWithin : Mapped → Type 0
AreWithin [] = Unit {0}
AreWithin (s ∷ ss) = (end_of s ≤ 2 ^ 32) × AreWithin ss

-- the addresses of a segment's bytes, but for the last of all addresses
abbrev pub span_of : Segment → Span
span_of s = record { start = s.start; end = min (s.start + length s.bytes) (2 ^ 32 - 1) }

-- a segment of zeros that may be read and written
unfoldable pub zeros_from : ℕ → ℕ → Segment
zeros_from start size = record { start = start; bytes = replicate size 0; flags = 6 }

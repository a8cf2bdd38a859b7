-- What is asked of an image by address: its byte there, and in what kind of segment the address lies. Flags: System V ABI, ELF,
-- program header, "Segment flag bits".
use Rattle.std.specs.Prelude.{ℕ, Bool, Option, is_some}
use Rattle.image_map.specs.declared.image.Image.{Image}
use Rattle.image_map.specs.Memory.{segment_at, byte_of, is_in}

-- the byte at an address: none outside the segments, and none where any byte may stand
abbrev pub byte_at : Image → ℕ → Option ℕ
byte_at image a = byte_of image.segments image.any_bytes a

-- an address lies in a segment of the image
abbrev pub is_in_segment : Image → ℕ → Bool
is_in_segment image a = is_some (segment_at image.segments a)

-- an address lies in a segment with code (PF_X)
abbrev pub is_code : Image → ℕ → Bool
is_code image a = is_in image.segments 1 a

-- an address lies in a segment that may be written (PF_W)
abbrev pub is_writable : Image → ℕ → Bool
is_writable image a = is_in image.segments 2 a

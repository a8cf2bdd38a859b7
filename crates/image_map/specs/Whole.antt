-- What holds of every image. The range of its addresses is the project's own.
use Rattle.std.specs.Prelude.{ℕ, ◌+◌, ◌≤◌, ◌≡◌, ◌⊎◌, false, ◌&&◌, List, [], ◌∷◌, length}
use Rattle.image_map.specs.declared.image.Segment.{Segment}
use Rattle.image_map.specs.declared.image.Image.{Image}
use Rattle.image_map.specs.Memory.{has_flag}

-- the address behind a segment's last byte
abbrev pub end_of : Segment → ℕ
end_of s = s.start + length s.bytes

-- two segments share no address
abbrev pub AreApart : Segment → Segment → Type 0
AreApart s t = (end_of s ≤ t.start) ⊎ (end_of t ≤ s.start)

-- a segment shares no address with any of the others
abbrev pub IsApartFrom : List Segment → Segment → Type 0
IsApartFrom [] s = Unit {0}
IsApartFrom (t ∷ ts) s = AreApart t s × IsApartFrom ts s

-- a segment lies in [0x1000, 0x7FFFFFFF), and isn't both open to writes (PF_W) and code (PF_X)
pub record IsPlaced (s : Segment) : Type 0 where
  pub low : 0x1000 ≤ s.start
  pub high : end_of s ≤ 0x7FFFFFFF
  pub flags : (has_flag 2 s && has_flag 1 s) ≡ false

-- each segment is placed, and shares no address with the ones after it
abbrev pub ArePlaced : List Segment → Type 0
ArePlaced [] = Unit {0}
ArePlaced (s ∷ ss) = IsPlaced s × IsApartFrom ss s × ArePlaced ss

pub record IsImage (i : Image) : Type 0 where
  pub segments : ArePlaced i.segments
  pub externs : length i.externs ≤ 1024

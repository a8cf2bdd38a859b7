-- Where segments lie and what may be done with them, whatever their bytes. The project's own.
use Rattle.std.specs.Prelude.{ℕ, List, length, map}
use Rattle.image_map.specs.declared.image.Segment.{Segment}

pub record Shape : Type 0 where
  pub start : ℕ
  pub len : ℕ
  pub flags : ℕ

abbrev pub shape : Segment → Shape
shape s = record { start = s.start; len = length s.bytes; flags = s.flags }

abbrev pub shapes : List Segment → List Shape
shapes segments = map shape segments

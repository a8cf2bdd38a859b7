-- What relocations leave of segments: where they stand, how long they are, and their flags. The project's own.
use Rattle.std.specs.Prelude.{ℕ, ◌≡◌, ◌+◌, ◌-◌, ◌<◌, ◌≤◌, Bool, true, ◌&&◌, nat_le, nat_lt, List, [], ◌∷◌}
use Rattle.std.specs.List.{list_any}
use Rattle.image_map.specs.Shapes.{Shape}
use Rattle.elf32.specs.declared.fields.ProgramHeader.{ProgramHeader}
use Rattle.elf32.specs.Checks.{start_of, end_of}

-- an address lies in a segment of this shape
abbrev pub in_shape : ℕ → Shape → Bool
in_shape a s = nat_le s.start a && nat_lt (a - s.start) s.len

-- each byte of a word lies in a segment
abbrev pub has_whole_word : List Shape → ℕ → Type 0
has_whole_word ss place = (k : ℕ) → k < 4 → list_any (in_shape (place + k)) ss ≡ true

-- the shape of a loaded segment
abbrev pub load_shape : ℕ → ProgramHeader → Shape
load_shape b h = record { start = start_of b h; len = h.p_memsz; flags = h.p_flags }

-- each of the loaded segments ends in the lower half of the addresses
abbrev pub AreLow : ℕ → List ProgramHeader → Type 0
AreLow b [] = Unit {0}
AreLow b (h ∷ hs) = (end_of b h ≤ 0x7FFFFFFF) × AreLow b hs

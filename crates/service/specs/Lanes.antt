-- The lanes of a shop's store. The project's own.
use Rattle.std.specs.Prelude.{◌≡◌, ◌↔◌, ℕ, ◌+◌, ◌==◌, ◌&&◌, Bool, true, false, IsSome, slice_index_or, Option, Some, None, List, [], ◌∷◌}
use Rattle.image_map.specs.declared.image.Image.{Image}
use Rattle.image_map.specs.declared.region.Settings.{Settings}
use Rattle.rounds.specs.declared.numbered.RoundTag.{RoundTag}

abbrev pub tag_of : Image → Settings → List (Option ℕ) → RoundTag
tag_of image settings lanes = record { image = image; settings = settings; lanes = lanes }

-- the lanes that there are count on from this number, up to the number of the store's lanes
abbrev pub are_numbered : ℕ → ℕ → List (Option ℕ) → Bool
are_numbered next count [] = next == count
are_numbered next count (None ∷ lanes) = are_numbered next count lanes
are_numbered next count (Some lane ∷ lanes) = (lane == next) && are_numbered (next + 1) count lanes

-- there are lanes for the numbers of call sites that are wanted, and for no others
abbrev pub AreWanted : List Bool → List (Option ℕ) → Type 0
AreWanted wanted lanes = (sites : ℕ) → IsSome (slice_index_or lanes sites None) ↔ (slice_index_or wanted sites false ≡ true)

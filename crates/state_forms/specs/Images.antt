-- What every image has. The project's own.
use Rattle.std.specs.Prelude.{◌≡◌, ℕ, ◌<◌, Some}
use Rattle.image_map.specs.declared.image.Image.{Image}
use Rattle.image_map.specs.Queries.{byte_at}

-- what is known of an address is a byte
abbrev pub HasBytes : Image → Type 0
HasBytes image = (a byte : ℕ) → byte_at image a ≡ Some byte → byte < 256

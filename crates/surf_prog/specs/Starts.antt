-- That runs begin. The law is the project's own.
use Rattle.std.specs.Prelude.{◌≡◌, ℕ, ◌<◌, ◌^◌, Some}
use Rattle.image_map.specs.declared.image.Image.{Image}
use Rattle.image_map.specs.declared.region.Settings.{Settings}
use Rattle.image_map.specs.Queries.{byte_at}
use Rattle.image_map.specs.Whole.{IsImage}
use Rattle.ia32_semantics.specs.State.{State}
use Rattle.ia32_semantics.specs.CallModel.{IsStart}

-- Each image of bytes has a start, wherever it is entered.
abbrev pub ImagesStart : Type 0
ImagesStart =
    (image : Image) (settings : Settings)
    → IsImage image → settings.entry < 2 ^ 32
    → ((a byte : ℕ) → byte_at image a ≡ Some byte → byte < 256)
    → (start : State) × IsStart image settings start

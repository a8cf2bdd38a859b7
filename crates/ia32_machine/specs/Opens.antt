-- What a machine's memory knows of its image. The project's own.
use Rattle.std.specs.Prelude.{◌≡◌, ℕ}
use Rattle.image_map.specs.declared.image.Image.{Image}
use Rattle.ia32_semantics.specs.Effects.{is_open}
use Rattle.ia32_memory.specs.Mapped.{Mapped, bytes_of, is_open_at}

-- the bytes that may be written, as the image has it
pub record KnowsOpen (image : Image) (memory : Mapped) : Type 0 where
  pub opens : (a : ℕ) → is_open_at memory a ≡ is_open image (bytes_of memory) a

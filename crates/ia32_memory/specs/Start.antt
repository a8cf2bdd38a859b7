-- The memory in which a run of an image starts, with 0 in each byte of any content. The project's own.
use Rattle.std.specs.Prelude.{ℕ, if◌then◌else◌, Some, None}
use Rattle.image_map.specs.declared.image.Image.{Image}
use Rattle.image_map.specs.Queries.{byte_at, is_in_segment}
use Rattle.ia32_semantics.specs.State.{Bytes}
use Rattle.ia32_semantics.specs.Effects.{byte_or_zero}
use Rattle.ia32_semantics.specs.Outcome.{is_in_stack}

-- 0 in the stack of the run whose entry's return slot has this address, and the image's bytes in its segments
abbrev pub start_bytes : Image → ℕ → Bytes
start_bytes image slot a =
    if is_in_stack slot a then Some 0 else (if is_in_segment image a then Some (byte_or_zero (byte_at image a)) else None)

-- The instruction that stands at an address: what the code from there on decodes to. The project's own.
use Rattle.std.specs.Prelude.{ℕ, Option, Some, None, Result, Ok, Err}
use Rattle.image_map.specs.declared.image.Image.{Image}
use Rattle.ia32_types.specs.declared.Instr.{Instr}
use Rattle.ia32_decode.specs.declared.NotDecoded.{NotDecoded}
use Rattle.ia32_decode.specs.Decoded.{decoded}
use Rattle.ia32_semantics.specs.Fetch.{fetch_window}

abbrev pub instruction_of : Result Instr NotDecoded → Option Instr
instruction_of (Ok i) = Some i
instruction_of (Err e) = None

-- the instruction with which the code at an address begins
unfoldable pub instruction_at : Image → ℕ → Option Instr
instruction_at image a = instruction_of (decoded (fetch_window image a) a)

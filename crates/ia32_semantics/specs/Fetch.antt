-- The instruction that is fetched at an address of an image. The greatest length is that of the Intel SDM, volume 2,
-- "Instruction Format"; which bytes are read is the project's own.
use Rattle.std.specs.Prelude.{ℕ, zero, suc, ◌+◌, if◌then◌else◌, List, [], ◌∷◌, take, Option, Some, None}
use Rattle.image_map.specs.declared.image.Image.{Image}
use Rattle.image_map.specs.Queries.{byte_at, is_code}
use Rattle.ia32_types.specs.declared.Instr.{Instr}
use Rattle.ia32_types.specs.Spells.{Spells}

-- the byte at an address, where it is code and known
abbrev pub code_byte : Image → ℕ → Option ℕ
code_byte image a = if is_code image a then byte_at image a else None

abbrev pub begun_by : Option ℕ → List ℕ → List ℕ
begun_by None rest = []
begun_by (Some byte) rest = byte ∷ rest

-- the longest run of at most n bytes from an address on that are all code and all known
unfoldable pub code_run : Image → ℕ → ℕ → List ℕ
code_run image a zero = []
code_run image a (suc n) = begun_by (code_byte image a) (code_run image (a + 1) n)

-- no instruction is longer
abbrev pub longest_instruction : ℕ
longest_instruction = 15

abbrev pub fetch_window : Image → ℕ → List ℕ
fetch_window image a = code_run image a longest_instruction

-- the instruction at this address: the code bytes there begin with its spelling
pub record IsFetched (image : Image) (a : ℕ) (i : Instr) : Type 0 where
  pub count : ℕ
  pub spelled : Spells (take count (fetch_window image a)) a i

-- The numbers that stand in the code of an image, and that may be addresses of its memory. The project's own.
use Rattle.std.specs.Prelude.{ℕ, zero, suc, ◌+◌, ◌-◌, Bool, true, false, ◌&&◌, if◌then◌else◌, List, [], ◌++◌, length, filter, map, ℤ, pos, Option, Some, None, option_to_list}
use Rattle.std.specs.List.{flat_map}
use Rattle.image_map.specs.declared.image.Image.{Image}
use Rattle.image_map.specs.declared.image.Segment.{Segment}
use Rattle.image_map.specs.Memory.{has_flag}
use Rattle.image_map.specs.Queries.{is_in_segment}
use Rattle.ia32_types.specs.declared.Width.{Width}
use Rattle.ia32_types.specs.declared.Width.TheVariants.{B8, W16, D32}
use Rattle.ia32_types.specs.declared.Operand.{Operand}
use Rattle.ia32_types.specs.declared.Operand.TheVariants as operand
use Rattle.ia32_types.specs.declared.Op.{Op}
use Rattle.ia32_types.specs.declared.Op.TheVariants as op
use Rattle.ia32_types.specs.declared.Instr.{Instr}
use Rattle.ia32_fetch.specs.Fetched.{instruction_at}

-- -- Of one instruction

-- the displacement of an operand in memory, with GS too
abbrev pub displacement : Option Operand → Option ℕ
displacement (Some (operand.Mem m)) = Some m.disp
displacement _ = None

abbrev pub immediate : Option Operand → Option ℕ
immediate (Some (operand.Imm n)) = Some n
immediate _ = None

-- the target of a jump or a call is no constant, nor is the number of bytes that a return takes
unfoldable pub has_constant : Op → Bool
has_constant op.Jmp = false
has_constant (op.Jcc c) = false
has_constant op.Call = false
has_constant op.Ret = false
has_constant _ = true

abbrev pub is_dword : Width → Bool
is_dword B8 = false
is_dword W16 = false
is_dword D32 = true

-- Those of 32 bits. One of 8 bits that is extended to 32 lies in no segment, since these lie between 0x1000 and 2^31.
abbrev pub immediates : Instr → List ℕ
immediates i =
    if has_constant i.op && is_dword i.width then option_to_list (immediate i.dst) ++ option_to_list (immediate i.src) ++ option_to_list i.imm else []

-- the displacement comes first
unfoldable pub constants_in : Instr → List ℕ
constants_in i = option_to_list (displacement i.dst) ++ option_to_list (displacement i.src) ++ immediates i

-- -- Of the code

abbrev pub constants_of : Option Instr → List ℕ
constants_of None = []
constants_of (Some i) = constants_in i

-- the bytes of an instruction behind its first
abbrev pub passed_with : Option Instr → ℕ
passed_with None = 0
passed_with (Some i) = i.len - 1

-- The constants of so many bytes of code from an address on, of which the first few are passed over: where bytes decode, all of
-- them are passed, and else one.
unfoldable pub scanned : Image → ℕ → ℕ → ℕ → List ℕ
scanned image skip zero at = []
scanned image zero (suc left) at = constants_of (instruction_at image at) ++ scanned image (passed_with (instruction_at image at)) left (at + 1)
scanned image (suc skip) (suc left) at = scanned image skip left (at + 1)

-- a segment with code (PF_X)
abbrev pub scanned_segment : Image → Segment → List ℕ
scanned_segment image s = if has_flag 1 s then scanned image 0 (length s.bytes) s.start else []

-- those of some numbers that are addresses of the image
abbrev pub addresses : Image → List ℕ → List ℤ
addresses image ns = map pos (filter (is_in_segment image) ns)

-- the constants that are addresses, as they stand in the code
unfoldable pub constants : Image → List ℤ
constants image = addresses image (flat_map (scanned_segment image) image.segments)

-- The text of an instruction. The form is the project's own; it is near to that of the Intel SDM.

use Rattle.std.specs.Prelude.{ℕ, ◌%◌, Bool, true, false, ◌==◌, ◌&&◌, ◌||◌, is_some, if◌then◌else◌, Option, Some, None, List, [], ◌∷◌, ◌++◌, codes}
use Rattle.ia32_types.specs.declared.Reg.{Reg}
use Rattle.ia32_types.specs.declared.Width.{Width}
use Rattle.ia32_types.specs.declared.Width.TheVariants.{B8, W16, D32}
use Rattle.ia32_types.specs.declared.Mem.{Mem}
use Rattle.ia32_types.specs.declared.Operand.{Operand}
use Rattle.ia32_types.specs.declared.Operand.TheVariants as operand
use Rattle.ia32_types.specs.declared.Op.{Op}
use Rattle.ia32_types.specs.declared.Op.TheVariants as op
use Rattle.ia32_types.specs.declared.Instr.{Instr}
use Rattle.surf_base.specs.Hex.{hex8_text}
use Rattle.ia32_print.specs.Names.{reg32_name, reg_name, high_name, width_name, mnemonic}

-- texts in a row, with one between each two
unfoldable pub joined : List ℕ → List (List ℕ) → List ℕ
joined between [] = []
joined between (first ∷ []) = first
joined between (first ∷ second ∷ more) = first ++ between ++ joined between (second ∷ more)

-- a number's digits without the zeros in front; one digit stays
unfoldable pub without_zeros : List ℕ → List ℕ
without_zeros [] = []
without_zeros (last ∷ []) = last ∷ []
without_zeros (digit ∷ next ∷ more) = if digit == 48 then without_zeros (next ∷ more) else digit ∷ next ∷ more

-- how many numbers a width has
abbrev pub width_numbers : Width → ℕ
width_numbers B8 = 0x100
width_numbers W16 = 0x10000
width_numbers D32 = 0x100000000

-- an immediate at a width
unfoldable pub immediate_text : Width → ℕ → List ℕ
immediate_text width number = codes "0x" ++ without_zeros (hex8_text (number % width_numbers width))

-- an address or a displacement
abbrev pub address_text : ℕ → List ℕ
address_text number = codes "0x" ++ hex8_text number

-- a scale is 1, 2, 4 or 8
abbrev pub scale_text : ℕ → List ℕ
scale_text scale =
    (if scale == 1 then codes "1" else
    (if scale == 2 then codes "2" else
    (if scale == 4 then codes "4" else codes "8")))

-- the parts of an address, as lists of one or none
abbrev pub base_parts : Option Reg → List (List ℕ)
base_parts None = []
base_parts (Some reg) = reg32_name reg ∷ []

abbrev pub index_parts : Option Reg → ℕ → List (List ℕ)
index_parts None scale = []
index_parts (Some reg) scale = (reg32_name reg ++ codes "*" ++ scale_text scale) ∷ []

-- a displacement of zero is left out, unless nothing else stands
abbrev pub displacement_parts : Mem → List (List ℕ)
displacement_parts m = if m.disp == 0 && (is_some m.base || is_some m.index) then [] else address_text m.disp ∷ []

abbrev pub segment_text : Bool → List ℕ
segment_text true = codes "gs:"
segment_text false = []

-- the address, without its segment
unfoldable pub sum_text : Mem → List ℕ
sum_text m = joined (codes "+") (base_parts m.base ++ index_parts m.index m.scale ++ displacement_parts m)

-- memory, without its width
unfoldable pub memory_text : Mem → List ℕ
memory_text m = codes "[" ++ segment_text m.gs ++ sum_text m ++ codes "]"

-- what stands before memory: its width, but nothing where the memory isn't read or written
abbrev pub memory_width : Op → Width → List ℕ
memory_width op.Lea width = []
memory_width op.Nop width = []
memory_width _ width = width_name width

-- an immediate; that of a call or a jump is the address to which it goes
abbrev pub number_text : Op → Width → ℕ → List ℕ
number_text op.Call width number = address_text number
number_text op.Jmp width number = address_text number
number_text (op.Jcc cond) width number = address_text number
number_text _ width number = immediate_text width number

-- the width of the second operand: that of the source for an extension, and 8 bits for a count
abbrev pub source_width : Op → Width → Width
source_width (op.Movzx source) width = source
source_width (op.Movsx source) width = source
source_width op.Shl width = B8
source_width op.Shr width = B8
source_width op.Sar width = B8
source_width op.Rol width = B8
source_width op.Ror width = B8
source_width _ width = width

-- an operand of an operation, at a width
unfoldable pub operand_text : Op → Width → Operand → List ℕ
operand_text op width (operand.Reg reg) = reg_name width reg
operand_text op width (operand.High reg) = high_name reg
operand_text op width (operand.Imm number) = number_text op width number
operand_text op width (operand.Mem memory) = memory_width op width ++ memory_text memory

-- the operands in order, up to the first that isn't there
abbrev pub operand_texts : Op → Width → Option Operand → Option Operand → Option ℕ → List (List ℕ)
operand_texts op width None second third = []
operand_texts op width (Some first) None third = operand_text op width first ∷ []
operand_texts op width (Some first) (Some second) None =
    operand_text op width first ∷ operand_text op (source_width op width) second ∷ []
operand_texts op width (Some first) (Some second) (Some number) =
    operand_text op width first ∷ operand_text op (source_width op width) second ∷ immediate_text width number ∷ []

-- operands stand behind a space
abbrev pub behind_space : List (List ℕ) → List ℕ
behind_space [] = []
behind_space (first ∷ more) = codes " " ++ joined (codes ", ") (first ∷ more)

-- an instruction
unfoldable pub instr_text : Instr → List ℕ
instr_text i = mnemonic i.op i.width ++ behind_space (operand_texts i.op i.width i.dst i.src i.imm)

-- What the operands of a form are, given the parts of an instruction (SDM volume 2, 2.1 and appendix A).

use Rattle.std.specs.Prelude.{ℕ, ◌+◌, ◌-◌, ◌/◌, ◌%◌, Bool, true, false, nat_lt, ◌||◌, ◌&&◌, if◌then◌else◌, Option, Some, None, option_map}
use Rattle.ia32_types.specs.declared.Reg.TheVariants.{Ecx}
use Rattle.ia32_types.specs.declared.Width.{Width}
use Rattle.ia32_types.specs.declared.Width.TheVariants.{B8, W16, D32}
use Rattle.ia32_types.specs.declared.Mem.{Mem}
use Rattle.ia32_types.specs.declared.Operand.{Operand}
use Rattle.ia32_types.specs.declared.Operand.TheVariants as operand
use Rattle.ia32_types.specs.declared.Op.{Op}
use Rattle.ia32_types.specs.declared.Op.TheVariants as op
use Rattle.ia32_types.specs.declared.Instr.{Instr}
use Rattle.ia32_types.specs.declared.forms.Size.{Size}
use Rattle.ia32_types.specs.declared.forms.Size.TheVariants as size
use Rattle.ia32_types.specs.declared.forms.Slot.{Slot}
use Rattle.ia32_types.specs.declared.forms.Slot.TheVariants as slot
use Rattle.ia32_types.specs.declared.forms.Form.{Form}
use Rattle.ia32_types.specs.declared.forms.Segment.{Segment}
use Rattle.ia32_types.specs.declared.forms.Segment.TheVariants as segment
use Rattle.ia32_types.specs.declared.forms.Parts.{Parts}
use Rattle.ia32_types.specs.Numbers.{reg_of, size as width_size}

-- forms of no to three operands
abbrev pub plain : Op → Size → Form
plain operation size = record { op = operation; size = size; first = None; second = None; third = None }

abbrev pub unary : Op → Size → Slot → Form
unary operation size a = record { op = operation; size = size; first = Some a; second = None; third = None }

abbrev pub binary : Op → Size → Slot → Slot → Form
binary operation size a b = record { op = operation; size = size; first = Some a; second = Some b; third = None }

abbrev pub ternary : Op → Size → Slot → Slot → Slot → Form
ternary operation size a b c = record { op = operation; size = size; first = Some a; second = Some b; third = Some c }

-- the width of a form's operands
abbrev pub width_of : Size → Bool → Width
width_of size.Byte operand16 = B8
width_of size.Full true = W16
width_of size.Full false = D32
width_of size.Dword operand16 = D32
width_of size.Any operand16 = D32

-- 2 to the width
abbrev pub width_limit : Width → ℕ
width_limit B8 = 256
width_limit W16 = 65536
width_limit D32 = 4294967296

-- the register of a number at a width: at 8 bits AL, CL, DL, BL, AH, CH, DH, BH
abbrev pub reg_operand : Width → ℕ → Operand
reg_operand B8 n = (if nat_lt n 4 then operand.Reg (reg_of n) else operand.High (reg_of (n - 4)))
reg_operand W16 n = operand.Reg (reg_of n)
reg_operand D32 n = operand.Reg (reg_of n)

-- a number of 8 bits with its sign kept, at a width
abbrev pub sign_extended : Width → ℕ → ℕ
sign_extended width n = (if nat_lt n 128 then n else (n + (width_limit width - 256)) % 4294967296)

-- the fields of ModRM
abbrev pub mod_field : ℕ → ℕ
mod_field modrm = modrm / 64

abbrev pub reg_field : ℕ → ℕ
reg_field modrm = modrm / 8 % 8

abbrev pub rm_field : ℕ → ℕ
rm_field modrm = modrm % 8

-- the fields of SIB
abbrev pub scale_field : ℕ → ℕ
scale_field sib = sib / 64

abbrev pub index_field : ℕ → ℕ
index_field sib = sib / 8 % 8

abbrev pub base_field : ℕ → ℕ
base_field sib = sib % 8

-- the bytes at the instruction's end that a slot takes
abbrev pub slot_bytes : Width → Slot → ℕ
slot_bytes width slot.RegMem = 0
slot_bytes width slot.RegMem8 = 0
slot_bytes width slot.Memory = 0
slot_bytes width slot.Reg = 0
slot_bytes width (slot.Fixed n) = 0
slot_bytes width slot.Cl = 0
slot_bytes width slot.One = 0
slot_bytes width slot.Imm = width_size width
slot_bytes width slot.Imm8 = 1
slot_bytes width slot.SignedImm8 = 1
slot_bytes width slot.Imm16 = 2
slot_bytes width slot.Rel8 = 1
slot_bytes width slot.Rel32 = 4
slot_bytes width slot.Offset = 4

abbrev pub some_slot_bytes : Width → Option Slot → ℕ
some_slot_bytes width None = 0
some_slot_bytes width (Some slot) = slot_bytes width slot

-- the bytes at the instruction's end
abbrev pub form_bytes : Width → Form → ℕ
form_bytes width f = some_slot_bytes width f.first + some_slot_bytes width f.second + some_slot_bytes width f.third

-- whether a slot speaks of ModRM
abbrev pub slot_has_modrm : Option Slot → Bool
slot_has_modrm (Some slot.RegMem) = true
slot_has_modrm (Some slot.RegMem8) = true
slot_has_modrm (Some slot.Memory) = true
slot_has_modrm (Some slot.Reg) = true
slot_has_modrm _ = false

abbrev pub has_modrm : Form → Bool
has_modrm f = slot_has_modrm f.first || slot_has_modrm f.second

-- whether a slot is memory alone, which no register may stand for
abbrev pub is_memory : Option Slot → Bool
is_memory (Some slot.Memory) = true
is_memory _ = false

abbrev pub is_offset : Option Slot → Bool
is_offset (Some slot.Offset) = true
is_offset _ = false

abbrev pub is_reg_mem : Option Slot → Bool
is_reg_mem (Some slot.RegMem) = true
is_reg_mem _ = false

abbrev pub is_dword : Size → Bool
is_dword size.Dword = true
is_dword _ = false

-- whether an operation writes its first operand
unfoldable pub writes_first : Op → Bool
writes_first op.Cmp = false
writes_first op.Test = false
writes_first op.Push = false
writes_first op.Call = false
writes_first op.Jmp = false
writes_first op.Nop = false
writes_first op.Mul = false
writes_first op.Imul = false
writes_first op.Div = false
writes_first op.Idiv = false
writes_first _ = true

-- whether a form writes the memory that ModRM names
abbrev pub stores : Form → Bool
stores f = is_reg_mem f.first && writes_first f.op

-- the register or memory that ModRM names, at a width
abbrev pub reg_mem : Width → ℕ → Option Mem → Operand
reg_mem width modrm None = reg_operand width (rm_field modrm)
reg_mem width modrm (Some memory) = operand.Mem memory

-- whether the address counts from GS
abbrev pub is_gs : Segment → Bool
is_gs segment.Gs = true
is_gs _ = false

-- memory at an address alone
abbrev pub at_address : Bool → ℕ → Mem
at_address gs disp = record { base = None; index = None; scale = 1; disp = disp; gs = gs }

abbrev pub parts_width : Parts → Width
parts_width p = width_of p.form.size p.prefixes.operand16

-- the operand in a slot, where the next instruction stands at next: a relative target counts from there
abbrev pub operand_of : Parts → ℕ → Slot → Operand
operand_of p next slot.RegMem = reg_mem (parts_width p) p.modrm p.memory
operand_of p next slot.RegMem8 = reg_mem B8 p.modrm p.memory
operand_of p next slot.Memory = reg_mem (parts_width p) p.modrm p.memory
operand_of p next slot.Reg = reg_operand (parts_width p) (reg_field p.modrm)
operand_of p next (slot.Fixed n) = reg_operand (parts_width p) n
operand_of p next slot.Cl = operand.Reg Ecx
operand_of p next slot.One = operand.Imm 1
operand_of p next slot.Imm = operand.Imm p.number
operand_of p next slot.Imm8 = operand.Imm p.number
operand_of p next slot.SignedImm8 = operand.Imm (sign_extended (parts_width p) p.number)
operand_of p next slot.Imm16 = operand.Imm p.number
operand_of p next slot.Rel8 = operand.Imm ((next + sign_extended D32 p.number) % 4294967296)
operand_of p next slot.Rel32 = operand.Imm ((next + p.number) % 4294967296)
operand_of p next slot.Offset = operand.Mem (at_address (is_gs p.prefixes.segment) p.number)

-- the number of a third operand
abbrev pub third_of : Parts → Slot → ℕ
third_of p slot.SignedImm8 = sign_extended (parts_width p) p.number
third_of p _ = p.number

-- the instruction at an address, of this length
abbrev pub finished : ℕ → ℕ → Parts → Instr
finished at len p = record {
  at = at;
  len = len;
  op = p.form.op;
  width = parts_width p;
  dst = option_map (operand_of p ((at + len) % 4294967296)) p.form.first;
  src = option_map (operand_of p ((at + len) % 4294967296)) p.form.second;
  imm = option_map (third_of p) p.form.third;
}

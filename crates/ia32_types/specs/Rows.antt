-- The opcode map, a line a form (SDM volume 2, appendix A).

use Rattle.std.specs.Prelude.{ℕ, ◌-◌, ◌/◌, ◌%◌, Bool, ◌==◌, nat_lt, ◌&&◌, nat_le, if◌then◌else◌, Option, Some, None, option_map}
use Rattle.ia32_types.specs.declared.Op.{Op}
use Rattle.ia32_types.specs.declared.Op.TheVariants as op
use Rattle.ia32_types.specs.declared.Width.TheVariants.{B8, W16}
use Rattle.ia32_types.specs.declared.forms.Size.{Size}
use Rattle.ia32_types.specs.declared.forms.Size.TheVariants as size
use Rattle.ia32_types.specs.declared.forms.Slot.{Slot}
use Rattle.ia32_types.specs.declared.forms.Slot.TheVariants as slot
use Rattle.ia32_types.specs.declared.forms.Count.{Count}
use Rattle.ia32_types.specs.declared.forms.Count.TheVariants as count
use Rattle.ia32_types.specs.declared.forms.Group.{Group}
use Rattle.ia32_types.specs.declared.forms.Group.TheVariants as group
use Rattle.ia32_types.specs.declared.forms.Row.{Row}
use Rattle.ia32_types.specs.declared.forms.Row.TheVariants.{Missing, One, Grouped}
use Rattle.ia32_types.specs.declared.forms.Form.{Form}
use Rattle.ia32_types.specs.Forms.{plain, unary, binary, ternary}

-- the operations of arithmetic by their number
abbrev pub arith_op : ℕ → Op
arith_op n =
    (if n == 0 then op.Add else
    (if n == 1 then op.Or else
    (if n == 2 then op.Adc else
    (if n == 3 then op.Sbb else
    (if n == 4 then op.And else
    (if n == 5 then op.Sub else
    (if n == 6 then op.Xor else op.Cmp)))))))

-- their six forms
abbrev pub arith_form : Op → ℕ → Form
arith_form op n =
    (if n == 0 then binary op size.Byte slot.RegMem slot.Reg else
    (if n == 1 then binary op size.Full slot.RegMem slot.Reg else
    (if n == 2 then binary op size.Byte slot.Reg slot.RegMem else
    (if n == 3 then binary op size.Full slot.Reg slot.RegMem else
    (if n == 4 then binary op size.Byte (slot.Fixed 0) slot.Imm else
    binary op size.Full (slot.Fixed 0) slot.Imm)))))

-- opcodes 00 to 3F
unfoldable pub row_00 : ℕ → Row
row_00 b = (if nat_lt (b % 8) 6 then One (arith_form (arith_op (b / 8)) (b % 8)) else Missing)

-- opcodes 40 to 7F
unfoldable pub row_40 : ℕ → Row
row_40 b =
    (if nat_le 0x40 b && nat_le b 0x47 then One (unary op.Inc size.Full (slot.Fixed (b - 0x40))) else
    (if nat_le 0x48 b && nat_le b 0x4F then One (unary op.Dec size.Full (slot.Fixed (b - 0x48))) else
    (if nat_le 0x50 b && nat_le b 0x57 then One (unary op.Push size.Dword (slot.Fixed (b - 0x50))) else
    (if nat_le 0x58 b && nat_le b 0x5F then One (unary op.Pop size.Dword (slot.Fixed (b - 0x58))) else
    (if b == 0x68 then One (unary op.Push size.Dword slot.Imm) else
    (if b == 0x69 then One (ternary op.Imul size.Full slot.Reg slot.RegMem slot.Imm) else
    (if b == 0x6A then One (unary op.Push size.Dword slot.SignedImm8) else
    (if b == 0x6B then One (ternary op.Imul size.Full slot.Reg slot.RegMem slot.SignedImm8) else
    (if nat_le 0x70 b && nat_le b 0x7F then One (unary (op.Jcc (b - 0x70)) size.Dword slot.Rel8) else
    Missing)))))))))

-- opcodes 80 to BF
unfoldable pub row_80 : ℕ → Row
row_80 b =
    (if b == 0x80 then Grouped group.Arith8 else
    (if b == 0x81 then Grouped group.Arith else
    (if b == 0x83 then Grouped group.ArithSigned else
    (if b == 0x84 then One (binary op.Test size.Byte slot.RegMem slot.Reg) else
    (if b == 0x85 then One (binary op.Test size.Full slot.RegMem slot.Reg) else
    (if b == 0x86 then One (binary op.Xchg size.Byte slot.RegMem slot.Reg) else
    (if b == 0x87 then One (binary op.Xchg size.Full slot.RegMem slot.Reg) else
    (if b == 0x88 then One (binary op.Mov size.Byte slot.RegMem slot.Reg) else
    (if b == 0x89 then One (binary op.Mov size.Full slot.RegMem slot.Reg) else
    (if b == 0x8A then One (binary op.Mov size.Byte slot.Reg slot.RegMem) else
    (if b == 0x8B then One (binary op.Mov size.Full slot.Reg slot.RegMem) else
    (if b == 0x8D then One (binary op.Lea size.Dword slot.Reg slot.Memory) else
    (if b == 0x8F then Grouped group.Pop else
    (if b == 0x90 then One (plain op.Nop size.Any) else
    (if nat_le 0x91 b && nat_le b 0x97 then One (binary op.Xchg size.Full (slot.Fixed 0) (slot.Fixed (b - 0x90))) else
    (if b == 0x98 then One (plain op.Cwde size.Dword) else
    (if b == 0x99 then One (plain op.Cdq size.Dword) else
    (if b == 0xA0 then One (binary op.Mov size.Byte (slot.Fixed 0) slot.Offset) else
    (if b == 0xA1 then One (binary op.Mov size.Full (slot.Fixed 0) slot.Offset) else
    (if b == 0xA2 then One (binary op.Mov size.Byte slot.Offset (slot.Fixed 0)) else
    (if b == 0xA3 then One (binary op.Mov size.Full slot.Offset (slot.Fixed 0)) else
    (if b == 0xA8 then One (binary op.Test size.Byte (slot.Fixed 0) slot.Imm) else
    (if b == 0xA9 then One (binary op.Test size.Full (slot.Fixed 0) slot.Imm) else
    (if nat_le 0xB0 b && nat_le b 0xB7 then One (binary op.Mov size.Byte (slot.Fixed (b - 0xB0)) slot.Imm) else
    (if nat_le 0xB8 b && nat_le b 0xBF then One (binary op.Mov size.Full (slot.Fixed (b - 0xB8)) slot.Imm) else
    Missing)))))))))))))))))))))))))

-- opcodes C0 to FF
unfoldable pub row_c0 : ℕ → Row
row_c0 b =
    (if b == 0xC0 then Grouped (group.Shift8 count.Imm8) else
    (if b == 0xC1 then Grouped (group.Shift count.Imm8) else
    (if b == 0xC2 then One (unary op.Ret size.Dword slot.Imm16) else
    (if b == 0xC3 then One (plain op.Ret size.Dword) else
    (if b == 0xC6 then Grouped group.Mov8 else
    (if b == 0xC7 then Grouped group.Mov else
    (if b == 0xC9 then One (plain op.Leave size.Dword) else
    (if b == 0xCC then One (plain op.Int3 size.Any) else
    (if b == 0xD0 then Grouped (group.Shift8 count.One) else
    (if b == 0xD1 then Grouped (group.Shift count.One) else
    (if b == 0xD2 then Grouped (group.Shift8 count.Cl) else
    (if b == 0xD3 then Grouped (group.Shift count.Cl) else
    (if b == 0xE8 then One (unary op.Call size.Dword slot.Rel32) else
    (if b == 0xE9 then One (unary op.Jmp size.Dword slot.Rel32) else
    (if b == 0xEB then One (unary op.Jmp size.Dword slot.Rel8) else
    (if b == 0xF4 then One (plain op.Hlt size.Any) else
    (if b == 0xF6 then Grouped group.Unary8 else
    (if b == 0xF7 then Grouped group.Unary else
    (if b == 0xFC then One (plain op.Cld size.Any) else
    (if b == 0xFD then One (plain op.Std size.Any) else
    (if b == 0xFE then Grouped group.Step8 else
    (if b == 0xFF then Grouped group.Step else
    Missing))))))))))))))))))))))

-- opcodes of one byte
abbrev pub row_of : ℕ → Row
row_of b = (if nat_lt b 0x40 then row_00 b else (if nat_lt b 0x80 then row_40 b else (if nat_lt b 0xC0 then row_80 b else row_c0 b)))

-- opcodes of two bytes, 0F and this one
unfoldable pub row_0f : ℕ → Row
row_0f b =
    (if b == 0x0B then One (plain op.Ud2 size.Any) else
    (if b == 0x1F then Grouped group.Nop else
    (if nat_le 0x40 b && nat_le b 0x4F then One (binary (op.Cmov (b - 0x40)) size.Full slot.Reg slot.RegMem) else
    (if nat_le 0x80 b && nat_le b 0x8F then One (unary (op.Jcc (b - 0x80)) size.Dword slot.Rel32) else
    (if nat_le 0x90 b && nat_le b 0x9F then One (unary (op.Setcc (b - 0x90)) size.Byte slot.RegMem) else
    (if b == 0xAF then One (binary op.Imul size.Full slot.Reg slot.RegMem) else
    (if b == 0xB6 then One (binary (op.Movzx B8) size.Full slot.Reg slot.RegMem8) else
    (if b == 0xB7 then One (binary (op.Movzx W16) size.Full slot.Reg slot.RegMem) else
    (if b == 0xBE then One (binary (op.Movsx B8) size.Full slot.Reg slot.RegMem8) else
    (if b == 0xBF then One (binary (op.Movsx W16) size.Full slot.Reg slot.RegMem) else
    Missing))))))))))

-- the string instructions, where rep says whether they are repeated
unfoldable pub string_form : Bool → ℕ → Option Form
string_form rep b =
    (if b == 0xA4 then Some (plain (op.Movs rep) size.Byte) else
    (if b == 0xA5 then Some (plain (op.Movs rep) size.Full) else
    (if b == 0xAA then Some (plain (op.Stos rep) size.Byte) else
    (if b == 0xAB then Some (plain (op.Stos rep) size.Full) else
    None))))

-- the shifts and rotates by ModRM's reg field
abbrev pub shift_op : ℕ → Option Op
shift_op n =
    (if n == 0 then Some op.Rol else
    (if n == 1 then Some op.Ror else
    (if n == 4 then Some op.Shl else
    (if n == 5 then Some op.Shr else
    (if n == 7 then Some op.Sar else
    None)))))

abbrev pub count_slot : Count → Slot
count_slot count.Imm8 = slot.Imm8
count_slot count.One = slot.One
count_slot count.Cl = slot.Cl

abbrev pub shift_form : Size → Count → ℕ → Option Form
shift_form size by n = option_map (λ op. binary op size slot.RegMem (count_slot by)) (shift_op n)

-- the operations of one operand
abbrev pub unary_op : ℕ → Option Op
unary_op n =
    (if n == 2 then Some op.Not else
    (if n == 3 then Some op.Neg else
    (if n == 4 then Some op.Mul else
    (if n == 5 then Some op.Imul else
    (if n == 6 then Some op.Div else
    (if n == 7 then Some op.Idiv else
    None))))))

abbrev pub unary_form : Size → ℕ → Option Form
unary_form size n = (if n == 0 then Some (binary op.Test size slot.RegMem slot.Imm) else option_map (λ op. unary op size slot.RegMem) (unary_op n))

-- the form that the reg field n tells
unfoldable pub group_form : Group → ℕ → Option Form
group_form group.Arith8 n = Some (binary (arith_op n) size.Byte slot.RegMem slot.Imm)
group_form group.Arith n = Some (binary (arith_op n) size.Full slot.RegMem slot.Imm)
group_form group.ArithSigned n = Some (binary (arith_op n) size.Full slot.RegMem slot.SignedImm8)
group_form (group.Shift8 by) n = shift_form size.Byte by n
group_form (group.Shift by) n = shift_form size.Full by n
group_form group.Mov8 n = (if n == 0 then Some (binary op.Mov size.Byte slot.RegMem slot.Imm) else None)
group_form group.Mov n = (if n == 0 then Some (binary op.Mov size.Full slot.RegMem slot.Imm) else None)
group_form group.Pop n = (if n == 0 then Some (unary op.Pop size.Dword slot.RegMem) else None)
group_form group.Nop n = (if n == 0 then Some (unary op.Nop size.Full slot.RegMem) else None)
group_form group.Unary8 n = unary_form size.Byte n
group_form group.Unary n = unary_form size.Full n
group_form group.Step8 n =
    (if n == 0 then Some (unary op.Inc size.Byte slot.RegMem) else
    (if n == 1 then Some (unary op.Dec size.Byte slot.RegMem) else
    None))
group_form group.Step n =
    (if n == 0 then Some (unary op.Inc size.Full slot.RegMem) else
    (if n == 1 then Some (unary op.Dec size.Full slot.RegMem) else
    (if n == 2 then Some (unary op.Call size.Dword slot.RegMem) else
    (if n == 4 then Some (unary op.Jmp size.Dword slot.RegMem) else
    (if n == 6 then Some (unary op.Push size.Dword slot.RegMem) else
    None)))))

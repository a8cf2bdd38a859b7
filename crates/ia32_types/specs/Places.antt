-- Which registers and flags an instruction reads and may write, one equation an operation (SDM volume 2,
-- "Operation" and "Flags Affected" of each instruction). A write to a part of a register reads and writes the
-- whole register. A repeated string instruction is taken with a count other than 0.

use Rattle.std.specs.Prelude.{ℕ, ◌/◌, ◌%◌, ◌==◌, Bool, true, false, if◌then◌else◌, List, [], ◌∷◌, ◌++◌, Option, Some, None, option_to_list}
use Rattle.std.specs.Int.RustNames.{bit_or}
use Rattle.ia32_types.specs.declared.Reg.{Reg}
use Rattle.ia32_types.specs.declared.Reg.TheVariants.{Eax, Ecx, Edx, Esp, Ebp, Esi, Edi}
use Rattle.ia32_types.specs.declared.Flag.{Flag}
use Rattle.ia32_types.specs.declared.Flag.TheVariants.{Cf, Pf, Zf, Sf, Of, Df}
use Rattle.ia32_types.specs.declared.Width.{Width}
use Rattle.ia32_types.specs.declared.Width.TheVariants.{B8, W16, D32}
use Rattle.ia32_types.specs.declared.Mem.{Mem}
use Rattle.ia32_types.specs.declared.Operand.{Operand}
use Rattle.ia32_types.specs.declared.Operand.TheVariants as operand
use Rattle.ia32_types.specs.declared.Op.{Op}
use Rattle.ia32_types.specs.declared.Op.TheVariants as op
use Rattle.ia32_types.specs.declared.Instr.{Instr}
use Rattle.ia32_types.specs.Sets.{reg_bit, flag_bit}

-- the bits of some registers, and of some flags
unfoldable pub reg_bits : List Reg → ℕ
reg_bits [] = 0
reg_bits (r ∷ rest) = bit_or (reg_bit r) (reg_bits rest)

unfoldable pub flag_bits : List Flag → ℕ
flag_bits [] = 0
flag_bits (f ∷ rest) = bit_or (flag_bit f) (flag_bits rest)

-- the registers of an address
abbrev pub address_of : Mem → List Reg
address_of m = option_to_list m.base ++ option_to_list m.index

-- what is read where the operand's value is
abbrev pub value_of : Option Operand → List Reg
value_of None = []
value_of (Some (operand.Reg r)) = r ∷ []
value_of (Some (operand.High r)) = r ∷ []
value_of (Some (operand.Imm n)) = []
value_of (Some (operand.Mem m)) = address_of m

-- what is read where the operand is written at a width: its address, or the register that it is a part of
abbrev pub place_of : Width → Option Operand → List Reg
place_of width None = []
place_of B8 (Some (operand.Reg r)) = r ∷ []
place_of W16 (Some (operand.Reg r)) = r ∷ []
place_of D32 (Some (operand.Reg r)) = []
place_of width (Some (operand.High r)) = r ∷ []
place_of width (Some (operand.Imm n)) = []
place_of width (Some (operand.Mem m)) = address_of m

-- the register that is written where the operand is
abbrev pub target_of : Option Operand → List Reg
target_of None = []
target_of (Some (operand.Reg r)) = r ∷ []
target_of (Some (operand.High r)) = r ∷ []
target_of (Some (operand.Imm n)) = []
target_of (Some (operand.Mem m)) = []

-- what a product of two halves reads beside its operand: at 8 bits AL and AX, at 16 AX and DX:AX, at 32 EAX
-- and EDX:EAX; and what it writes
abbrev pub product_reads : Width → List Reg
product_reads B8 = Eax ∷ []
product_reads W16 = Eax ∷ Edx ∷ []
product_reads D32 = Eax ∷ []

abbrev pub product_writes : Width → List Reg
product_writes B8 = Eax ∷ []
product_writes W16 = Eax ∷ Edx ∷ []
product_writes D32 = Eax ∷ Edx ∷ []

-- what a division reads beside its operand, and what it writes: AX, DX:AX or EDX:EAX
abbrev pub quotient_places : Width → List Reg
quotient_places B8 = Eax ∷ []
quotient_places W16 = Eax ∷ Edx ∷ []
quotient_places D32 = Eax ∷ Edx ∷ []

-- the first operand, the second and the third of a form of imul: where there is one operand, it is a factor
-- beside EAX; where there are two, the first is a factor; where there are three, it is only written
abbrev pub imul_reads : Width → Option Operand → Option Operand → Option ℕ → List Reg
imul_reads width dst None imm = value_of dst ++ product_reads width
imul_reads width dst (Some src) None = value_of dst ++ value_of (Some src)
imul_reads width dst (Some src) (Some imm) = place_of width dst ++ value_of (Some src)

abbrev pub imul_writes : Width → Option Operand → Option Operand → List Reg
imul_writes width dst None = product_writes width
imul_writes width dst (Some src) = target_of dst

-- the registers that an operation with these operands reads
unfoldable pub op_reads : Op → Width → Option Operand → Option Operand → Option ℕ → List Reg
op_reads op.Add width dst src imm = value_of dst ++ value_of src
op_reads op.Or width dst src imm = value_of dst ++ value_of src
op_reads op.Adc width dst src imm = value_of dst ++ value_of src
op_reads op.Sbb width dst src imm = value_of dst ++ value_of src
op_reads op.And width dst src imm = value_of dst ++ value_of src
op_reads op.Sub width dst src imm = value_of dst ++ value_of src
op_reads op.Xor width dst src imm = value_of dst ++ value_of src
op_reads op.Cmp width dst src imm = value_of dst ++ value_of src
op_reads op.Mov width dst src imm = place_of width dst ++ value_of src
op_reads op.Lea width dst src imm = place_of width dst ++ value_of src
op_reads op.Push width dst src imm = value_of dst ++ (Esp ∷ [])
op_reads op.Pop width dst src imm = place_of width dst ++ (Esp ∷ [])
op_reads op.Xchg width dst src imm = value_of dst ++ value_of src
op_reads op.Test width dst src imm = value_of dst ++ value_of src
op_reads op.Inc width dst src imm = value_of dst
op_reads op.Dec width dst src imm = value_of dst
op_reads op.Not width dst src imm = value_of dst
op_reads op.Neg width dst src imm = value_of dst
op_reads op.Mul width dst src imm = value_of dst ++ product_reads width
op_reads op.Imul width dst src imm = imul_reads width dst src imm
op_reads op.Shl width dst src imm = value_of dst ++ value_of src
op_reads op.Shr width dst src imm = value_of dst ++ value_of src
op_reads op.Sar width dst src imm = value_of dst ++ value_of src
op_reads (op.Movzx from) width dst src imm = place_of width dst ++ value_of src
op_reads (op.Movsx from) width dst src imm = place_of width dst ++ value_of src
op_reads op.Cwde width dst src imm = Eax ∷ []
op_reads op.Cdq width dst src imm = Eax ∷ []
op_reads op.Leave width dst src imm = Ebp ∷ []
op_reads (op.Setcc cond) width dst src imm = place_of width dst
op_reads op.Call width dst src imm = value_of dst ++ (Esp ∷ [])
op_reads op.Ret width dst src imm = Esp ∷ []
op_reads op.Jmp width dst src imm = value_of dst
op_reads (op.Jcc cond) width dst src imm = []
op_reads op.Nop width dst src imm = []
op_reads op.Endbr32 width dst src imm = []
op_reads op.Hlt width dst src imm = []
op_reads op.Int3 width dst src imm = []
op_reads op.Ud2 width dst src imm = []
op_reads (op.Cmov cond) width dst src imm = value_of dst ++ value_of src
op_reads op.Rol width dst src imm = value_of dst ++ value_of src
op_reads op.Ror width dst src imm = value_of dst ++ value_of src
op_reads op.Div width dst src imm = value_of dst ++ quotient_places width
op_reads op.Idiv width dst src imm = value_of dst ++ quotient_places width
op_reads (op.Movs false) width dst src imm = Esi ∷ Edi ∷ []
op_reads (op.Movs true) width dst src imm = Ecx ∷ Esi ∷ Edi ∷ []
op_reads (op.Stos false) width dst src imm = Eax ∷ Edi ∷ []
op_reads (op.Stos true) width dst src imm = Eax ∷ Ecx ∷ Edi ∷ []
op_reads op.Cld width dst src imm = []
op_reads op.Std width dst src imm = []

-- the registers that it writes
unfoldable pub op_writes : Op → Width → Option Operand → Option Operand → List Reg
op_writes op.Add width dst src = target_of dst
op_writes op.Or width dst src = target_of dst
op_writes op.Adc width dst src = target_of dst
op_writes op.Sbb width dst src = target_of dst
op_writes op.And width dst src = target_of dst
op_writes op.Sub width dst src = target_of dst
op_writes op.Xor width dst src = target_of dst
op_writes op.Cmp width dst src = []
op_writes op.Mov width dst src = target_of dst
op_writes op.Lea width dst src = target_of dst
op_writes op.Push width dst src = Esp ∷ []
op_writes op.Pop width dst src = target_of dst ++ (Esp ∷ [])
op_writes op.Xchg width dst src = target_of dst ++ target_of src
op_writes op.Test width dst src = []
op_writes op.Inc width dst src = target_of dst
op_writes op.Dec width dst src = target_of dst
op_writes op.Not width dst src = target_of dst
op_writes op.Neg width dst src = target_of dst
op_writes op.Mul width dst src = product_writes width
op_writes op.Imul width dst src = imul_writes width dst src
op_writes op.Shl width dst src = target_of dst
op_writes op.Shr width dst src = target_of dst
op_writes op.Sar width dst src = target_of dst
op_writes (op.Movzx from) width dst src = target_of dst
op_writes (op.Movsx from) width dst src = target_of dst
op_writes op.Cwde width dst src = Eax ∷ []
op_writes op.Cdq width dst src = Edx ∷ []
op_writes op.Leave width dst src = Esp ∷ Ebp ∷ []
op_writes (op.Setcc cond) width dst src = target_of dst
op_writes op.Call width dst src = Esp ∷ []
op_writes op.Ret width dst src = Esp ∷ []
op_writes op.Jmp width dst src = []
op_writes (op.Jcc cond) width dst src = []
op_writes op.Nop width dst src = []
op_writes op.Endbr32 width dst src = []
op_writes op.Hlt width dst src = []
op_writes op.Int3 width dst src = []
op_writes op.Ud2 width dst src = []
op_writes (op.Cmov cond) width dst src = target_of dst
op_writes op.Rol width dst src = target_of dst
op_writes op.Ror width dst src = target_of dst
op_writes op.Div width dst src = quotient_places width
op_writes op.Idiv width dst src = quotient_places width
op_writes (op.Movs false) width dst src = Esi ∷ Edi ∷ []
op_writes (op.Movs true) width dst src = Ecx ∷ Esi ∷ Edi ∷ []
op_writes (op.Stos false) width dst src = Edi ∷ []
op_writes (op.Stos true) width dst src = Ecx ∷ Edi ∷ []
op_writes op.Cld width dst src = []
op_writes op.Std width dst src = []

-- the flags of a condition (SDM volume 1, appendix B)
abbrev pub cond_flags : ℕ → List Flag
cond_flags cond =
    (if cond / 2 == 0 then Of ∷ [] else
    (if cond / 2 == 1 then Cf ∷ [] else
    (if cond / 2 == 2 then Zf ∷ [] else
    (if cond / 2 == 3 then Cf ∷ Zf ∷ [] else
    (if cond / 2 == 4 then Sf ∷ [] else
    (if cond / 2 == 5 then Pf ∷ [] else
    (if cond / 2 == 6 then Sf ∷ Of ∷ [] else
    Zf ∷ Sf ∷ Of ∷ [])))))))

-- the five flags of arithmetic
abbrev pub arithmetic_flags : List Flag
arithmetic_flags = Cf ∷ Pf ∷ Zf ∷ Sf ∷ Of ∷ []

-- the flags that an operation reads
unfoldable pub op_flag_reads : Op → List Flag
op_flag_reads op.Adc = Cf ∷ []
op_flag_reads op.Sbb = Cf ∷ []
op_flag_reads (op.Setcc cond) = cond_flags cond
op_flag_reads (op.Jcc cond) = cond_flags cond
op_flag_reads (op.Cmov cond) = cond_flags cond
op_flag_reads (op.Movs rep) = Df ∷ []
op_flag_reads (op.Stos rep) = Df ∷ []
op_flag_reads _ = []

-- whether a shift or a rotate by this count is known to change nothing: the count modulo 32 is 0
abbrev pub is_by_zero : Option Operand → Bool
is_by_zero None = false
is_by_zero (Some (operand.Reg r)) = false
is_by_zero (Some (operand.High r)) = false
is_by_zero (Some (operand.Imm count)) = count % 32 == 0
is_by_zero (Some (operand.Mem m)) = false

abbrev pub unless_by_zero : Option Operand → List Flag → List Flag
unless_by_zero count flags = (if is_by_zero count then [] else flags)

-- the flags that an operation with this second operand may write, undefined ones among them
unfoldable pub op_flag_writes : Op → Option Operand → List Flag
op_flag_writes op.Add src = arithmetic_flags
op_flag_writes op.Or src = arithmetic_flags
op_flag_writes op.Adc src = arithmetic_flags
op_flag_writes op.Sbb src = arithmetic_flags
op_flag_writes op.And src = arithmetic_flags
op_flag_writes op.Sub src = arithmetic_flags
op_flag_writes op.Xor src = arithmetic_flags
op_flag_writes op.Cmp src = arithmetic_flags
op_flag_writes op.Test src = arithmetic_flags
op_flag_writes op.Inc src = Pf ∷ Zf ∷ Sf ∷ Of ∷ []
op_flag_writes op.Dec src = Pf ∷ Zf ∷ Sf ∷ Of ∷ []
op_flag_writes op.Neg src = arithmetic_flags
op_flag_writes op.Mul src = arithmetic_flags
op_flag_writes op.Imul src = arithmetic_flags
op_flag_writes op.Shl src = unless_by_zero src arithmetic_flags
op_flag_writes op.Shr src = unless_by_zero src arithmetic_flags
op_flag_writes op.Sar src = unless_by_zero src arithmetic_flags
op_flag_writes op.Rol src = unless_by_zero src (Cf ∷ Of ∷ [])
op_flag_writes op.Ror src = unless_by_zero src (Cf ∷ Of ∷ [])
op_flag_writes op.Div src = arithmetic_flags
op_flag_writes op.Idiv src = arithmetic_flags
op_flag_writes op.Cld src = Df ∷ []
op_flag_writes op.Std src = Df ∷ []
op_flag_writes _ src = []

-- the places of an instruction
abbrev pub registers_read : Instr → List Reg
registers_read i = op_reads i.op i.width i.dst i.src i.imm

abbrev pub registers_written : Instr → List Reg
registers_written i = op_writes i.op i.width i.dst i.src

abbrev pub flags_read : Instr → List Flag
flags_read i = op_flag_reads i.op

abbrev pub flags_written : Instr → List Flag
flags_written i = op_flag_writes i.op i.src

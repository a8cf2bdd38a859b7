-- The names of operations, registers and conditions, in lower case (Intel SDM, volume 2); a condition has one of the
-- names of appendix B.1.4.7.

use Rattle.std.specs.Prelude.{ℕ, Bool, true, false, ◌==◌, if◌then◌else◌, List, [], ◌++◌, codes}
use Rattle.ia32_types.specs.declared.Reg.{Reg}
use Rattle.ia32_types.specs.declared.Reg.TheVariants.{Eax, Ecx, Edx, Ebx, Esp, Ebp, Esi, Edi}
use Rattle.ia32_types.specs.declared.Width.{Width}
use Rattle.ia32_types.specs.declared.Width.TheVariants.{B8, W16, D32}
use Rattle.ia32_types.specs.declared.Op.{Op}
use Rattle.ia32_types.specs.declared.Op.TheVariants as op

-- a register of 32 bits
abbrev pub reg32_name : Reg → List ℕ
reg32_name Eax = codes "eax"
reg32_name Ecx = codes "ecx"
reg32_name Edx = codes "edx"
reg32_name Ebx = codes "ebx"
reg32_name Esp = codes "esp"
reg32_name Ebp = codes "ebp"
reg32_name Esi = codes "esi"
reg32_name Edi = codes "edi"

-- its low 16 bits
abbrev pub reg16_name : Reg → List ℕ
reg16_name Eax = codes "ax"
reg16_name Ecx = codes "cx"
reg16_name Edx = codes "dx"
reg16_name Ebx = codes "bx"
reg16_name Esp = codes "sp"
reg16_name Ebp = codes "bp"
reg16_name Esi = codes "si"
reg16_name Edi = codes "di"

-- its low byte, which four registers have
abbrev pub reg8_name : Reg → List ℕ
reg8_name Eax = codes "al"
reg8_name Ecx = codes "cl"
reg8_name Edx = codes "dl"
reg8_name Ebx = codes "bl"
reg8_name _ = []

-- its second byte, which the same four have
abbrev pub high_name : Reg → List ℕ
high_name Eax = codes "ah"
high_name Ecx = codes "ch"
high_name Edx = codes "dh"
high_name Ebx = codes "bh"
high_name _ = []

-- the part of a register that has this width
abbrev pub reg_name : Width → Reg → List ℕ
reg_name B8 reg = reg8_name reg
reg_name W16 reg = reg16_name reg
reg_name D32 reg = reg32_name reg

-- what stands before memory of a width
abbrev pub width_name : Width → List ℕ
width_name B8 = codes "byte "
width_name W16 = codes "word "
width_name D32 = codes "dword "

-- the last letter of a string instruction
abbrev pub width_letter : Width → List ℕ
width_letter B8 = codes "b"
width_letter W16 = codes "w"
width_letter D32 = codes "d"

-- the condition of a number below 16
unfoldable pub cond_name : ℕ → List ℕ
cond_name n =
    (if n == 0 then codes "o" else
    (if n == 1 then codes "no" else
    (if n == 2 then codes "b" else
    (if n == 3 then codes "ae" else
    (if n == 4 then codes "e" else
    (if n == 5 then codes "ne" else
    (if n == 6 then codes "be" else
    (if n == 7 then codes "a" else
    (if n == 8 then codes "s" else
    (if n == 9 then codes "ns" else
    (if n == 10 then codes "p" else
    (if n == 11 then codes "np" else
    (if n == 12 then codes "l" else
    (if n == 13 then codes "ge" else
    (if n == 14 then codes "le" else
    codes "g")))))))))))))))

-- what stands before a string instruction that is repeated
abbrev pub repeat_name : Bool → List ℕ
repeat_name true = codes "rep "
repeat_name false = []

-- the name of an operation; that of a string instruction has its width
unfoldable pub mnemonic : Op → Width → List ℕ
mnemonic op.Add width = codes "add"
mnemonic op.Or width = codes "or"
mnemonic op.Adc width = codes "adc"
mnemonic op.Sbb width = codes "sbb"
mnemonic op.And width = codes "and"
mnemonic op.Sub width = codes "sub"
mnemonic op.Xor width = codes "xor"
mnemonic op.Cmp width = codes "cmp"
mnemonic op.Mov width = codes "mov"
mnemonic op.Lea width = codes "lea"
mnemonic op.Push width = codes "push"
mnemonic op.Pop width = codes "pop"
mnemonic op.Xchg width = codes "xchg"
mnemonic op.Test width = codes "test"
mnemonic op.Inc width = codes "inc"
mnemonic op.Dec width = codes "dec"
mnemonic op.Not width = codes "not"
mnemonic op.Neg width = codes "neg"
mnemonic op.Mul width = codes "mul"
mnemonic op.Imul width = codes "imul"
mnemonic op.Shl width = codes "shl"
mnemonic op.Shr width = codes "shr"
mnemonic op.Sar width = codes "sar"
mnemonic (op.Movzx source) width = codes "movzx"
mnemonic (op.Movsx source) width = codes "movsx"
mnemonic op.Cwde width = codes "cwde"
mnemonic op.Cdq width = codes "cdq"
mnemonic op.Leave width = codes "leave"
mnemonic (op.Setcc cond) width = codes "set" ++ cond_name cond
mnemonic op.Call width = codes "call"
mnemonic op.Ret width = codes "ret"
mnemonic op.Jmp width = codes "jmp"
mnemonic (op.Jcc cond) width = codes "j" ++ cond_name cond
mnemonic op.Nop width = codes "nop"
mnemonic op.Endbr32 width = codes "endbr32"
mnemonic op.Hlt width = codes "hlt"
mnemonic op.Int3 width = codes "int3"
mnemonic op.Ud2 width = codes "ud2"
mnemonic (op.Cmov cond) width = codes "cmov" ++ cond_name cond
mnemonic op.Rol width = codes "rol"
mnemonic op.Ror width = codes "ror"
mnemonic op.Div width = codes "div"
mnemonic op.Idiv width = codes "idiv"
mnemonic (op.Movs rep) width = repeat_name rep ++ codes "movs" ++ width_letter width
mnemonic (op.Stos rep) width = repeat_name rep ++ codes "stos" ++ width_letter width
mnemonic op.Cld width = codes "cld"
mnemonic op.Std width = codes "std"

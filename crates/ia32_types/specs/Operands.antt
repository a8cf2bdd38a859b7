-- Which operands an instruction has, by its operation (SDM volume 2, the forms of each instruction, as far as this project
-- has them).

use Rattle.std.specs.Prelude.{◌≡◌, ℕ, ◌<◌, ◌≤◌, ◌⊎◌, Bool, true, false, Option, Some, None}
use Rattle.ia32_types.specs.declared.Reg.{Reg}
use Rattle.ia32_types.specs.declared.Reg.TheVariants.{Ecx, Esp}
use Rattle.ia32_types.specs.declared.Width.{Width}
use Rattle.ia32_types.specs.declared.Width.TheVariants.{B8, W16, D32}
use Rattle.ia32_types.specs.declared.Mem.{Mem}
use Rattle.ia32_types.specs.declared.Operand.{Operand}
use Rattle.ia32_types.specs.declared.Operand.TheVariants as operand
use Rattle.ia32_types.specs.declared.Op.{Op}
use Rattle.ia32_types.specs.declared.Op.TheVariants as op
use Rattle.ia32_types.specs.declared.Instr.{Instr}
use Rattle.ia32_types.specs.Numbers.{reg_number}
use Rattle.ia32_types.specs.Forms.{width_limit}

-- -- Operands

-- an index is any register but ESP; without one the scale is 1
abbrev pub IsIndex : Option Reg → ℕ → Type 0
IsIndex None scale = scale ≡ 1
IsIndex (Some r) scale = r ≡ Esp → ⊥

pub record IsAddress (m : Mem) : Type 0 where
  pub scale : (m.scale ≡ 1) ⊎ ((m.scale ≡ 2) ⊎ ((m.scale ≡ 4) ⊎ (m.scale ≡ 8)))
  pub index : IsIndex m.index m.scale
  pub disp : m.disp < 4294967296

-- a register, or at 8 bits a part of one of the first four
abbrev pub IsRegister : Width → Operand → Type 0
IsRegister B8 (operand.Reg r) = reg_number r < 4
IsRegister W16 (operand.Reg r) = Unit {0}
IsRegister D32 (operand.Reg r) = Unit {0}
IsRegister B8 (operand.High r) = reg_number r < 4
IsRegister W16 (operand.High r) = ⊥
IsRegister D32 (operand.High r) = ⊥
IsRegister width (operand.Imm n) = ⊥
IsRegister width (operand.Mem m) = ⊥

-- a register or memory
abbrev pub IsPlace : Width → Operand → Type 0
IsPlace width (operand.Reg r) = IsRegister width (operand.Reg r)
IsPlace width (operand.High r) = IsRegister width (operand.High r)
IsPlace width (operand.Imm n) = ⊥
IsPlace width (operand.Mem m) = IsAddress m

-- one that is written: no memory that counts from GS
abbrev pub IsTarget : Width → Operand → Type 0
IsTarget width (operand.Reg r) = IsRegister width (operand.Reg r)
IsTarget width (operand.High r) = IsRegister width (operand.High r)
IsTarget width (operand.Imm n) = ⊥
IsTarget width (operand.Mem m) = IsAddress m × (m.gs ≡ false)

-- a register, memory or an immediate within the width
abbrev pub IsValue : Width → Operand → Type 0
IsValue width (operand.Reg r) = IsRegister width (operand.Reg r)
IsValue width (operand.High r) = IsRegister width (operand.High r)
IsValue width (operand.Imm n) = n < width_limit width
IsValue width (operand.Mem m) = IsAddress m

-- the count of a shift: a byte or CL
abbrev pub IsCount : Operand → Type 0
IsCount (operand.Reg r) = r ≡ Ecx
IsCount (operand.High r) = ⊥
IsCount (operand.Imm n) = n < 256
IsCount (operand.Mem m) = ⊥

-- an immediate below a bound
abbrev pub IsBelow : ℕ → Operand → Type 0
IsBelow limit (operand.Reg r) = ⊥
IsBelow limit (operand.High r) = ⊥
IsBelow limit (operand.Imm n) = n < limit
IsBelow limit (operand.Mem m) = ⊥

abbrev pub IsMemory : Operand → Type 0
IsMemory (operand.Reg r) = ⊥
IsMemory (operand.High r) = ⊥
IsMemory (operand.Imm n) = ⊥
IsMemory (operand.Mem m) = IsAddress m

abbrev pub is_in_memory : Operand → Bool
is_in_memory (operand.Reg r) = false
is_in_memory (operand.High r) = false
is_in_memory (operand.Imm n) = false
is_in_memory (operand.Mem m) = true

-- two operands of which one at most is memory
abbrev pub HasOneAddress : Operand → Operand → Type 0
HasOneAddress a b = is_in_memory a ≡ true → is_in_memory b ≡ false

-- 16 or 32 bits
abbrev pub IsWide : Width → Type 0
IsWide B8 = ⊥
IsWide W16 = Unit {0}
IsWide D32 = Unit {0}

-- 8 or 16 bits
abbrev pub IsNarrow : Width → Type 0
IsNarrow B8 = Unit {0}
IsNarrow W16 = Unit {0}
IsNarrow D32 = ⊥

-- -- Operations by their operands

pub data Shape : Type 0 where
  pair : Bool → Shape  -- a place and a value, where the Bool says whether the place is written
  exchanged : Shape  -- a place and a register, both written
  loaded : Shape  -- a register and an address
  pushed : Shape  -- a value of 32 bits, which may be a target
  popped : Shape  -- a place of 32 bits that is written
  changed : Shape  -- a place that is written
  factor : Shape  -- a place that is read
  product : Shape  -- a factor; or a register and a place; or these and a number
  shifted : Shape  -- a place that is written, and a count
  extended : Width → Shape  -- a register and a place of this width
  tested : ℕ → Shape  -- a byte that is written by this condition
  chosen : ℕ → Shape  -- a register, and a place that is read by this condition
  branched : ℕ → Shape  -- the target of a branch by this condition
  returned : Shape  -- nothing, or a number of bytes
  idle : Shape  -- nothing, or a place of 16 or 32 bits
  alone : Shape  -- nothing
  string : Shape  -- nothing, at any width

abbrev pub shape_of : Op → Shape
shape_of op.Add = pair true
shape_of op.Or = pair true
shape_of op.Adc = pair true
shape_of op.Sbb = pair true
shape_of op.And = pair true
shape_of op.Sub = pair true
shape_of op.Xor = pair true
shape_of op.Cmp = pair false
shape_of op.Mov = pair true
shape_of op.Lea = loaded
shape_of op.Push = pushed
shape_of op.Pop = popped
shape_of op.Xchg = exchanged
shape_of op.Test = pair false
shape_of op.Inc = changed
shape_of op.Dec = changed
shape_of op.Not = changed
shape_of op.Neg = changed
shape_of op.Mul = factor
shape_of op.Imul = product
shape_of op.Shl = shifted
shape_of op.Shr = shifted
shape_of op.Sar = shifted
shape_of (op.Movzx from) = extended from
shape_of (op.Movsx from) = extended from
shape_of op.Cwde = alone
shape_of op.Cdq = alone
shape_of op.Leave = alone
shape_of (op.Setcc cond) = tested cond
shape_of op.Call = pushed
shape_of op.Ret = returned
shape_of op.Jmp = pushed
shape_of (op.Jcc cond) = branched cond
shape_of op.Nop = idle
shape_of op.Endbr32 = alone
shape_of op.Hlt = alone
shape_of op.Int3 = alone
shape_of op.Ud2 = alone
shape_of (op.Cmov cond) = chosen cond
shape_of op.Rol = shifted
shape_of op.Ror = shifted
shape_of op.Div = factor
shape_of op.Idiv = factor
shape_of (op.Movs rep) = string
shape_of (op.Stos rep) = string
shape_of op.Cld = alone
shape_of op.Std = alone

-- the first operand of a pair
abbrev pub IsFirst : Bool → Width → Operand → Type 0
IsFirst true width a = IsTarget width a
IsFirst false width a = IsPlace width a

-- no operand, one and two
abbrev pub HasNone : Option Operand → Option Operand → Option ℕ → Type 0
HasNone None None None = Unit {0}
HasNone _ _ _ = ⊥

abbrev pub HasOne : (Operand → Type 0) → Option Operand → Option Operand → Option ℕ → Type 0
HasOne P (Some a) None None = P a
HasOne P _ _ _ = ⊥

abbrev pub HasTwo : (Operand → Operand → Type 0) → Option Operand → Option Operand → Option ℕ → Type 0
HasTwo P (Some a) (Some b) None = P a b
HasTwo P _ _ _ = ⊥

-- the three forms of imul
abbrev pub IsProduct : Width → Option Operand → Option Operand → Option ℕ → Type 0
IsProduct width (Some a) None None = IsPlace width a
IsProduct width (Some a) (Some b) None = IsWide width × IsRegister width a × IsPlace width b
IsProduct width (Some a) (Some b) (Some n) = IsWide width × IsRegister width a × IsPlace width b × (n < width_limit width)
IsProduct width _ _ _ = ⊥

-- ret, with a number of bytes or without
abbrev pub IsReturn : Option Operand → Option Operand → Option ℕ → Type 0
IsReturn None None None = Unit {0}
IsReturn (Some a) None None = IsBelow 65536 a
IsReturn _ _ _ = ⊥

-- nop, with an operand or without
abbrev pub IsIdle : Width → Option Operand → Option Operand → Option ℕ → Type 0
IsIdle width None None None = width ≡ D32
IsIdle width (Some a) None None = IsWide width × IsPlace width a
IsIdle width _ _ _ = ⊥

-- what the operands of a shape are at a width
abbrev pub Fits : Shape → Width → Option Operand → Option Operand → Option ℕ → Type 0
Fits (pair writes) width = HasTwo (λ a b. IsFirst writes width a × IsValue width b × HasOneAddress a b)
Fits exchanged width = HasTwo (λ a b. IsTarget width a × IsRegister width b)
Fits loaded width = λ dst src imm. (width ≡ D32) × HasTwo (λ a b. IsRegister D32 a × IsMemory b) dst src imm
Fits pushed width = λ dst src imm. (width ≡ D32) × HasOne (IsValue D32) dst src imm
Fits popped width = λ dst src imm. (width ≡ D32) × HasOne (IsTarget D32) dst src imm
Fits changed width = HasOne (IsTarget width)
Fits factor width = HasOne (IsPlace width)
Fits product width = IsProduct width
Fits shifted width = HasTwo (λ a b. IsTarget width a × IsCount b)
Fits (extended from) width = λ dst src imm. IsWide width × IsNarrow from × HasTwo (λ a b. IsRegister width a × IsPlace from b) dst src imm
Fits (tested cond) width = λ dst src imm. (cond < 16) × (width ≡ B8) × HasOne (IsTarget B8) dst src imm
Fits (chosen cond) width = λ dst src imm. (cond < 16) × IsWide width × HasTwo (λ a b. IsRegister width a × IsPlace width b) dst src imm
Fits (branched cond) width = λ dst src imm. (cond < 16) × (width ≡ D32) × HasOne (IsBelow 4294967296) dst src imm
Fits returned width = λ dst src imm. (width ≡ D32) × IsReturn dst src imm
Fits idle width = IsIdle width
Fits alone width = λ dst src imm. (width ≡ D32) × HasNone dst src imm
Fits string width = HasNone

-- what an operation's operands are
abbrev pub HasOperands : Op → Width → Option Operand → Option Operand → Option ℕ → Type 0
HasOperands o width dst src imm = Fits (shape_of o) width dst src imm

-- an instruction of 1 to 15 bytes with the operands of its operation
pub record IsInstruction (i : Instr) : Type 0 where
  pub some : 1 ≤ i.len
  pub short : i.len ≤ 15
  pub operands : HasOperands i.op i.width i.dst i.src i.imm

-- Which registers and flags a node reads, may write, and writes always. The project's own.
use Rattle.std.specs.Prelude.{Bool, true, false, pos, int_le, if◌then◌else◌, List, [], ◌∷◌, Option, Some, None}
use Rattle.image_map.specs.declared.region.Kind.{Kind}
use Rattle.image_map.specs.declared.region.Kind.TheVariants as kind
use Rattle.ia32_types.specs.declared.Reg.{Reg}
use Rattle.ia32_types.specs.declared.Reg.TheVariants.{Eax, Ecx, Edx, Esp}
use Rattle.ia32_types.specs.declared.Flag.{Flag}
use Rattle.ia32_types.specs.declared.Operand.{Operand}
use Rattle.ia32_types.specs.declared.Operand.TheVariants as operand
use Rattle.ia32_types.specs.declared.Op.{Op}
use Rattle.ia32_types.specs.declared.Op.TheVariants as op
use Rattle.ia32_types.specs.declared.Instr.{Instr}
use Rattle.ia32_types.specs.Places.{registers_read, registers_written, flags_read, flags_written, arithmetic_flags}
use Rattle.strided.specs.Interval.{Interval}
use Rattle.vset.specs.Values.{only_number}
use Rattle.abs_semantics.specs.States.{AbsState}
use Rattle.abs_steps.specs.Places.{Content, Extern, Instruction, Nothing}

-- -- Externs

-- the stack pointer, by which an extern finds its words and returns
unfoldable pub extern_reads_registers : Kind → List Reg
extern_reads_registers kind.Stop = []
extern_reads_registers _ = Esp ∷ []

-- what an extern leaves anything in, and the stack pointer
unfoldable pub extern_writes_registers : Kind → List Reg
extern_writes_registers kind.Stop = []
extern_writes_registers _ = Eax ∷ Ecx ∷ Edx ∷ Esp ∷ []

unfoldable pub extern_writes_flags : Kind → List Flag
extern_writes_flags kind.Stop = []
extern_writes_flags _ = arithmetic_flags

-- -- What is read and what may be written

unfoldable pub registers_used : Content → List Reg
registers_used (Extern k) = extern_reads_registers k
registers_used (Instruction i) = registers_read i
registers_used Nothing = []

unfoldable pub registers_defined : Content → List Reg
registers_defined (Extern k) = extern_writes_registers k
registers_defined (Instruction i) = registers_written i
registers_defined Nothing = []

unfoldable pub flags_used : Content → List Flag
flags_used (Extern k) = []
flags_used (Instruction i) = flags_read i
flags_used Nothing = []

unfoldable pub flags_defined : Content → List Flag
flags_defined (Extern k) = extern_writes_flags k
flags_defined (Instruction i) = flags_written i
flags_defined Nothing = []

-- -- What is written always

-- a string instruction that is repeated
unfoldable pub is_repeated : Op → Bool
is_repeated (op.Movs rep) = rep
is_repeated (op.Stos rep) = rep
is_repeated _ = false

-- numbers alone, and one at least
abbrev pub is_once_at_least : Option Interval → Bool
is_once_at_least None = false
is_once_at_least (Some c) = int_le (pos 1) c.lo

-- an instruction repeated no times writes no register
abbrev pub writes_registers_always : AbsState → Op → Bool
writes_registers_always a o = if is_repeated o then is_once_at_least (only_number (a.registers 1)) else true

unfoldable pub registers_always : AbsState → Content → List Reg
registers_always a (Extern k) = extern_writes_registers k
registers_always a (Instruction i) = if writes_registers_always a i.op then registers_written i else []
registers_always a Nothing = []

-- a shift or a rotate
unfoldable pub is_shift : Op → Bool
is_shift op.Shl = true
is_shift op.Shr = true
is_shift op.Sar = true
is_shift op.Rol = true
is_shift op.Ror = true
is_shift _ = false

abbrev pub is_number : Option Operand → Bool
is_number (Some (operand.Imm n)) = true
is_number _ = false

-- the count may be 0 where it is no number of the instruction's own
abbrev pub writes_flags_always : Instr → Bool
writes_flags_always i = if is_shift i.op then is_number i.src else true

-- by the instruction alone; a flag that is left undefined counts as written
unfoldable pub flags_always : Content → List Flag
flags_always (Extern k) = extern_writes_flags k
flags_always (Instruction i) = if writes_flags_always i then flags_written i else []
flags_always Nothing = []

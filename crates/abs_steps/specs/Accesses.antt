-- The accesses to memory of an instruction and of an extern in an abstract state: what is read, and then what is written. A word that counts
-- from GS is none, nor is all that a reader may read. The project's own.
use Rattle.std.specs.Prelude.{ℕ, zero, suc, ◌+◌, ◌*◌, ◌==◌, max, Bool, true, false, pos, if◌then◌else◌, List, [], ◌∷◌, ◌++◌, Option, Some, None}
use Rattle.image_map.specs.declared.region.Kind.{Kind}
use Rattle.image_map.specs.declared.region.Kind.TheVariants as kind
use Rattle.ia32_types.specs.declared.Width.{Width}
use Rattle.ia32_types.specs.declared.Width.TheVariants.{D32}
use Rattle.ia32_types.specs.declared.Operand.{Operand}
use Rattle.ia32_types.specs.declared.Operand.TheVariants as operand
use Rattle.ia32_types.specs.declared.Op.{Op}
use Rattle.ia32_types.specs.declared.Op.TheVariants as op
use Rattle.ia32_types.specs.declared.Instr.{Instr}
use Rattle.ia32_semantics.specs.Effects.{Whole}
use Rattle.ia32_types.specs.Numbers.{size}
use Rattle.strided.specs.Interval.{Interval}
use Rattle.vset.specs.Values.{Values, only_number}
use Rattle.vset.specs.Operations.{add}
use Rattle.abs_alu.specs.Words.{number}
use Rattle.abs_semantics.specs.States.{AbsState}
use Rattle.abs_semantics.specs.Operands.{address, with_register}
use Rattle.abs_steps.specs.declared.accesses.Access.{Access}
use Rattle.abs_steps.specs.Views.{View, stored_at}
use Rattle.abs_steps.specs.Strings.{count_of, if_counted, bytes_of}
use Rattle.abs_steps.specs.Rows.{pushed_at, risen}

abbrev pub access : Bool → Values → Option ℕ → Access
access write at len = record { addr = at; len = len; write = write }

abbrev pub word_at : Bool → Values → Access
word_at write at = access write at (Some 4)

-- -- Operands

-- an operand in memory
abbrev pub of_operand : Bool → AbsState → Width → Option Operand → List Access
of_operand write a width (Some (operand.Mem m)) = if m.gs then [] else access write (address a m) (Some (size width)) ∷ []
of_operand write a width _ = []

abbrev pub first_read : AbsState → Instr → List Access
first_read a i = of_operand false a i.width i.dst

abbrev pub second_read : AbsState → Instr → List Access
second_read a i = of_operand false a i.width i.src

abbrev pub both_read : AbsState → Instr → List Access
both_read a i = first_read a i ++ second_read a i

abbrev pub first_written : AbsState → Instr → List Access
first_written a i = of_operand true a i.width i.dst

-- the forms of imul by their operands
abbrev pub factors_read : AbsState → Instr → Option Operand → Option ℕ → List Access
factors_read a i None imm = first_read a i
factors_read a i (Some src) None = both_read a i
factors_read a i (Some src) (Some imm) = second_read a i

abbrev pub product_written : AbsState → Instr → Option Operand → List Access
product_written a i None = []
product_written a i (Some src) = first_written a i

-- -- Strings

-- so many bytes of elements, if any
abbrev pub range_of : Bool → Values → ℕ → Option Interval → List Access
range_of write at z None = access write at None ∷ []
range_of write at z (Some c) = if bytes_of z c == 0 then [] else access write at (Some (bytes_of z c)) ∷ []

-- once, or ECX times
abbrev pub string_range : Bool → AbsState → Bool → Width → Values → List Access
string_range write a false width at = access write at (Some (size width)) ∷ []
string_range write a true width at = range_of write at (size width) (count_of a (size width))

-- -- Instructions

unfoldable pub reads : Op → AbsState → Instr → List Access
reads op.Add a i = both_read a i
reads op.Or a i = both_read a i
reads op.Adc a i = both_read a i
reads op.Sbb a i = both_read a i
reads op.And a i = both_read a i
reads op.Sub a i = both_read a i
reads op.Xor a i = both_read a i
reads op.Cmp a i = both_read a i
reads op.Mov a i = second_read a i
reads op.Lea a i = []
reads op.Push a i = first_read a i
reads op.Pop a i = word_at false (a.registers 4) ∷ []
reads op.Xchg a i = both_read a i
reads op.Test a i = both_read a i
reads op.Inc a i = first_read a i
reads op.Dec a i = first_read a i
reads op.Not a i = first_read a i
reads op.Neg a i = first_read a i
reads op.Mul a i = first_read a i
reads op.Imul a i = factors_read a i i.src i.imm
reads op.Shl a i = first_read a i
reads op.Shr a i = first_read a i
reads op.Sar a i = first_read a i
reads (op.Movzx from) a i = of_operand false a from i.src
reads (op.Movsx from) a i = of_operand false a from i.src
reads op.Cwde a i = []
reads op.Cdq a i = []
reads op.Leave a i = word_at false (a.registers 5) ∷ []
reads (op.Setcc c) a i = []
reads op.Call a i = first_read a i
reads op.Ret a i = word_at false (a.registers 4) ∷ []
reads op.Jmp a i = first_read a i
reads (op.Jcc c) a i = []
reads op.Nop a i = []
reads op.Endbr32 a i = []
reads op.Hlt a i = []
reads op.Int3 a i = []
reads op.Ud2 a i = []
reads (op.Cmov c) a i = both_read a i
reads op.Rol a i = first_read a i
reads op.Ror a i = first_read a i
reads op.Div a i = first_read a i
reads op.Idiv a i = first_read a i
reads (op.Movs rep) a i = string_range false a rep i.width (a.registers 6)
reads (op.Stos rep) a i = []
reads op.Cld a i = []
reads op.Std a i = []

-- the word that a push or a call puts on the stack
abbrev pub word_pushed : AbsState → List Access
word_pushed a = word_at true (pushed_at (a.registers 4)) ∷ []

-- where pop stores, as its row does
abbrev pub word_popped : AbsState → Instr → List Access
word_popped a i = first_written (with_register a Whole 4 (risen (a.registers 4))) i

unfoldable pub writes : Op → AbsState → Instr → List Access
writes op.Add a i = first_written a i
writes op.Or a i = first_written a i
writes op.Adc a i = first_written a i
writes op.Sbb a i = first_written a i
writes op.And a i = first_written a i
writes op.Sub a i = first_written a i
writes op.Xor a i = first_written a i
writes op.Cmp a i = []
writes op.Mov a i = first_written a i
writes op.Lea a i = first_written a i
writes op.Push a i = word_pushed a
writes op.Pop a i = word_popped a i
writes op.Xchg a i = first_written a i ++ of_operand true a i.width i.src
writes op.Test a i = []
writes op.Inc a i = first_written a i
writes op.Dec a i = first_written a i
writes op.Not a i = first_written a i
writes op.Neg a i = first_written a i
writes op.Mul a i = []
writes op.Imul a i = product_written a i i.src
writes op.Shl a i = first_written a i
writes op.Shr a i = first_written a i
writes op.Sar a i = first_written a i
writes (op.Movzx from) a i = first_written a i
writes (op.Movsx from) a i = first_written a i
writes op.Cwde a i = []
writes op.Cdq a i = []
writes op.Leave a i = []
writes (op.Setcc c) a i = first_written a i
writes op.Call a i = word_pushed a
writes op.Ret a i = []
writes op.Jmp a i = []
writes (op.Jcc c) a i = []
writes op.Nop a i = []
writes op.Endbr32 a i = []
writes op.Hlt a i = []
writes op.Int3 a i = []
writes op.Ud2 a i = []
writes (op.Cmov c) a i = []
writes op.Rol a i = first_written a i
writes op.Ror a i = first_written a i
writes op.Div a i = []
writes op.Idiv a i = []
writes (op.Movs rep) a i = string_range true a rep i.width (a.registers 7)
writes (op.Stos rep) a i = string_range true a rep i.width (a.registers 7)
writes op.Cld a i = []
writes op.Std a i = []

unfoldable pub accesses : AbsState → Instr → List Access
accesses a i = reads i.op a i ++ writes i.op a i

-- -- Externs

-- the address of the n-th argument, counted from 1: the first stands above the return word
abbrev pub argument_at : AbsState → ℕ → Values
argument_at a n = add (a.registers 4) (number (pos (4 * n)))

-- n arguments from one on
abbrev pub arguments_read : AbsState → ℕ → ℕ → List Access
arguments_read a zero from = []
arguments_read a (suc n) from = word_at false (argument_at a from) ∷ arguments_read a n (from + 1)

-- the return word and n arguments
abbrev pub words_read : AbsState → ℕ → List Access
words_read a n = word_at false (a.registers 4) ∷ arguments_read a n 1

unfoldable pub extern_reads : AbsState → Kind → List Access
extern_reads a (kind.Pure n) = words_read a n
extern_reads a (kind.Reader n) = words_read a n
extern_reads a kind.Alloc = words_read a 1
extern_reads a kind.Stop = []
extern_reads a kind.Unknown = words_read a 0
extern_reads a (kind.Fills buffer length) = words_read a (max buffer length)

-- the value of the n-th argument
abbrev pub argument : View → ℕ → Values
argument v n = stored_at v D32 (argument_at v.state n)

-- as many bytes as an argument says, at most
abbrev pub filled_count : View → ℕ → Option Interval
filled_count v length = if_counted 1 (only_number (argument v length))

unfoldable pub extern_writes : View → Kind → List Access
extern_writes v (kind.Pure n) = []
extern_writes v (kind.Reader n) = []
extern_writes v kind.Alloc = []
extern_writes v kind.Stop = []
extern_writes v kind.Unknown = []
extern_writes v (kind.Fills buffer length) = range_of true (argument v buffer) 1 (filled_count v length)

unfoldable pub extern_accesses : View → Kind → List Access
extern_accesses v k = extern_reads v.state k ++ extern_writes v k

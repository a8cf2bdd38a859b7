-- Addresses and values of operands in an abstract state, and registers that are written. Sizes and places of operands are those of the
-- SDM, volume 1, 3.7; what is known of them is the project's own.
use Rattle.std.specs.Prelude.{ℕ, ◌/◌, ◌%◌, ◌==◌, ◌&&◌, Bool, false, pos, int_le, if◌then◌else◌, Option, Some, None}
use Rattle.std.specs.Int.{cast_signed, w32}
use Rattle.ia32_types.specs.declared.Reg.{Reg}
use Rattle.ia32_types.specs.declared.Width.{Width}
use Rattle.ia32_types.specs.declared.Width.TheVariants.{B8, W16, D32}
use Rattle.ia32_types.specs.declared.Mem.{Mem}
use Rattle.ia32_types.specs.declared.Operand.{Operand}
use Rattle.ia32_types.specs.declared.Operand.TheVariants as operand
use Rattle.ia32_types.specs.Numbers.{reg_number, size}
use Rattle.ia32_semantics.specs.Effects.{Part, Whole, Word, Low, High, with_part}
use Rattle.ia32_semantics.specs.Operands.{bits, low_part}
use Rattle.ia32_semantics.specs.State.{put}
use Rattle.strided.specs.Interval.{Interval, one}
use Rattle.si_bits.specs.Operations.{low, mul, up_to}
use Rattle.vset.specs.declared.facts.CmpFact.{CmpFact}
use Rattle.vset.specs.declared.facts.CmpPlace.{CmpPlace}
use Rattle.vset.specs.declared.facts.CmpPlace.TheVariants as place
use Rattle.vset.specs.Values.{Values, Top, only_number}
use Rattle.vset.specs.Operations.{add}
use Rattle.abs_alu.specs.Operands.{known}
use Rattle.abs_alu.specs.Words.{numbers, number}
use Rattle.alocs.specs.Cells.{Division}
use Rattle.abs_semantics.specs.States.{AbsState}
use Rattle.abs_semantics.specs.Accesses.{read}

-- the signed number of a word
abbrev pub word_number : ℕ → Values
word_number n = number (cast_signed w32 n)

-- -- Addresses

abbrev pub base_value : AbsState → Option Reg → Values
base_value a None = number (pos 0)
base_value a (Some r) = a.registers (reg_number r)

-- a multiple of numbers; one of anything else isn't known
abbrev pub multiple_of : ℕ → Option Interval → Values
multiple_of scale None = Top
multiple_of scale (Some x) = numbers (mul x (one (pos scale)))

abbrev pub scaled : ℕ → Values → Values
scaled scale v = if scale == 1 then v else multiple_of scale (only_number v)

abbrev pub index_value : AbsState → Option Reg → ℕ → Values
index_value a None scale = number (pos 0)
index_value a (Some r) scale = scaled scale (a.registers (reg_number r))

-- base and index first, and then the displacement
unfoldable pub address : AbsState → Mem → Values
address a m = add (add (base_value a m.base) (index_value a m.index m.scale)) (word_number m.disp)

-- -- Values

-- every number of so many bits
abbrev pub any_of : Width → Values
any_of B8 = numbers (up_to 255)
any_of W16 = numbers (up_to 65535)
any_of D32 = Top

abbrev pub numbers_or_any : Width → Option Interval → Values
numbers_or_any width None = any_of width
numbers_or_any width (Some x) = numbers x

-- what is read at a width: a value that isn't of numbers alone may be any number of so many bits
abbrev pub read_as : Width → Values → Values
read_as B8 v = numbers_or_any B8 (only_number v)
read_as W16 v = numbers_or_any W16 (only_number v)
read_as D32 v = v

abbrev pub low_numbers : Width → Option Interval → Values
low_numbers width None = any_of width
low_numbers width (Some x) = numbers (low (bits width) x)

-- the low part of a value
abbrev pub low_of : Width → Values → Values
low_of B8 v = low_numbers B8 (only_number v)
low_of W16 v = low_numbers W16 (only_number v)
low_of D32 v = v

-- the second byte of a word
abbrev pub second_byte : Option ℕ → Values
second_byte None = any_of B8
second_byte (Some n) = number (pos (n / 256 % 256))

-- memory that counts from GS may hold anything
abbrev pub memory_value : AbsState → Division → ℕ → Width → Mem → Values
memory_value a d p width m = if m.gs then any_of width else read_as width (read a d p (address a m) (size width))

-- the value of an operand at a node of procedure p; below 32 bits a number without a sign
unfoldable pub operand_value : AbsState → Division → ℕ → Width → Operand → Values
operand_value a d p width (operand.Reg r) = low_of width (a.registers (reg_number r))
operand_value a d p width (operand.High r) = second_byte (known 32 (a.registers (reg_number r)))
operand_value a d p width (operand.Imm n) = word_number (low_part width n)
operand_value a d p width (operand.Mem m) = memory_value a d p width m

-- -- Writing

-- a register of which a part takes a word
abbrev pub known_with_part : Part → Values → Option ℕ → Option ℕ → Values
known_with_part part other (Some old) (Some new) = word_number (with_part part old new)
known_with_part part other _ _ = other

abbrev pub is_up_to : ℕ → Option Interval → Bool
is_up_to most None = false
is_up_to most (Some x) = int_le (pos 0) x.lo && int_le x.hi (pos most)

-- the part, where nothing stands above it
abbrev pub if_alone : ℕ → Values → Values → Values
if_alone most old new = if is_up_to most (only_number old) then new else Top

-- a register that held a value, of which a part takes another
unfoldable pub with_part_value : Part → Values → Values → Values
with_part_value Whole old new = new
with_part_value Word old new = known_with_part Word (if_alone 65535 old new) (known 32 old) (known 16 new)
with_part_value Low old new = known_with_part Low (if_alone 255 old new) (known 32 old) (known 8 new)
with_part_value High old new = known_with_part High Top (known 32 old) (known 8 new)

abbrev pub is_register : ℕ → CmpPlace → Bool
is_register n (place.Reg r) = reg_number r == n
is_register n (place.Cell c) = false

-- what is known of the last comparison, where it wasn't of the register
abbrev pub fact_without : ℕ → Option CmpFact → Option CmpFact
fact_without n None = None
fact_without n (Some f) = if is_register n f.place then None else Some f

-- a state in which a part of a register takes a value
abbrev pub with_register : AbsState → Part → ℕ → Values → AbsState
with_register a part n v =
    record a { registers = put a.registers n (with_part_value part (a.registers n) v); fact = fact_without n a.fact }

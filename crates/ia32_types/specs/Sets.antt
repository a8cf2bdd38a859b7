-- Sets of registers and flags as bits. The encoding of the sets is the project's own.

use Rattle.std.specs.Prelude.{◌≡◌, ℕ, ◌^◌, ◌==◌, Bool, if◌then◌else◌, List}
use Rattle.std.specs.List.{list_any}
use Rattle.std.specs.Int.RustNames.{bit_and, bit_or}
use Rattle.ia32_types.specs.declared.Reg.{Reg}
use Rattle.ia32_types.specs.declared.Reg.TheVariants.{Eax, Ecx, Edx, Ebx, Esp, Ebp, Esi, Edi}
use Rattle.ia32_types.specs.declared.Flag.{Flag}
use Rattle.ia32_types.specs.declared.Flag.TheVariants.{Cf, Pf, Zf, Sf, Of, Df}
use Rattle.ia32_types.specs.declared.sets.RegSet.{RegSet}
use Rattle.ia32_types.specs.declared.sets.FlagSet.{FlagSet}
use Rattle.ia32_types.specs.declared.sets.NumberSet.{NumberSet}
use Rattle.ia32_types.specs.Numbers.{is_same_reg, is_same_flag}

-- the bit of a register
abbrev pub reg_bit : Reg → ℕ
reg_bit Eax = 1
reg_bit Ecx = 2
reg_bit Edx = 4
reg_bit Ebx = 8
reg_bit Esp = 16
reg_bit Ebp = 32
reg_bit Esi = 64
reg_bit Edi = 128

-- the bit of a flag
abbrev pub flag_bit : Flag → ℕ
flag_bit Cf = 1
flag_bit Pf = 2
flag_bit Zf = 4
flag_bit Sf = 8
flag_bit Of = 16
flag_bit Df = 32

-- whether a register is in a set, and a flag
abbrev pub has_reg : RegSet → Reg → Bool
has_reg s r = bit_and s.0 (reg_bit r) == reg_bit r

abbrev pub has_flag : FlagSet → Flag → Bool
has_flag s f = bit_and s.0 (flag_bit f) == flag_bit f

-- the set of one register, and that of one flag
abbrev pub reg_alone : Reg → RegSet
reg_alone r = record { 0 = reg_bit r }

abbrev pub flag_alone : Flag → FlagSet
flag_alone f = record { 0 = flag_bit f }

-- what is in either set
abbrev pub regs_of_both : RegSet → RegSet → RegSet
regs_of_both a b = record { 0 = bit_or a.0 b.0 }

abbrev pub flags_of_both : FlagSet → FlagSet → FlagSet
flags_of_both a b = record { 0 = bit_or a.0 b.0 }

-- no flag, and a flag where it is asked for
abbrev pub no_flags : FlagSet
no_flags = record { 0 = 0 }

abbrev pub flag_if : Bool → Flag → FlagSet
flag_if has f = if has then flag_alone f else no_flags

-- the flags that pass a test
unfoldable pub flag_set : (Flag → Bool) → FlagSet
flag_set has =
    flags_of_both (flag_if (has Cf) Cf)
    (flags_of_both (flag_if (has Pf) Pf)
    (flags_of_both (flag_if (has Zf) Zf) (flags_of_both (flag_if (has Sf) Sf) (flags_of_both (flag_if (has Of) Of) (flag_if (has Df) Df)))))

-- the numbers of the members of a set, and whether a number is one of them
abbrev pub reg_numbers : RegSet → NumberSet
reg_numbers s = record { 0 = s.0 }

abbrev pub flag_numbers : FlagSet → NumberSet
flag_numbers s = record { 0 = s.0 }

abbrev pub has_number : NumberSet → ℕ → Bool
has_number s n = bit_and s.0 (2 ^ n) == 2 ^ n

-- whether a register is in a list, and a flag
abbrev pub is_listed_reg : List Reg → Reg → Bool
is_listed_reg regs r = list_any (is_same_reg r) regs

abbrev pub is_listed_flag : List Flag → Flag → Bool
is_listed_flag flags f = list_any (is_same_flag f) flags

-- a set has the members of a list and no other
abbrev pub HasRegs : RegSet → List Reg → Type 0
HasRegs s regs = (r : Reg) → has_reg s r ≡ is_listed_reg regs r

abbrev pub HasFlags : FlagSet → List Flag → Type 0
HasFlags s flags = (f : Flag) → has_flag s f ≡ is_listed_flag flags f

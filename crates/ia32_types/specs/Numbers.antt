-- Numbers of the general registers (SDM volume 2, 2.1.5) and of the flags, and the bytes of a width. The order of the flags is the project's own.

use Rattle.std.specs.Prelude.{ℕ, ◌==◌, Bool, if◌then◌else◌}
use Rattle.ia32_types.specs.declared.Reg.{Reg}
use Rattle.ia32_types.specs.declared.Reg.TheVariants.{Eax, Ecx, Edx, Ebx, Esp, Ebp, Esi, Edi}
use Rattle.ia32_types.specs.declared.Flag.{Flag}
use Rattle.ia32_types.specs.declared.Flag.TheVariants.{Cf, Pf, Zf, Sf, Of, Df}
use Rattle.ia32_types.specs.declared.Width.{Width}
use Rattle.ia32_types.specs.declared.Width.TheVariants.{B8, W16, D32}

-- how many bytes a width has
abbrev pub size : Width → ℕ
size B8 = 1
size W16 = 2
size D32 = 4

-- the number of a register, below 8
abbrev pub reg_number : Reg → ℕ
reg_number Eax = 0
reg_number Ecx = 1
reg_number Edx = 2
reg_number Ebx = 3
reg_number Esp = 4
reg_number Ebp = 5
reg_number Esi = 6
reg_number Edi = 7

-- the general register of a number below 8
abbrev pub reg_of : ℕ → Reg
reg_of n =
    (if n == 0 then Eax else
    (if n == 1 then Ecx else
    (if n == 2 then Edx else
    (if n == 3 then Ebx else
    (if n == 4 then Esp else
    (if n == 5 then Ebp else
    (if n == 6 then Esi else Edi)))))))

-- the number of a flag, below 6
abbrev pub flag_number : Flag → ℕ
flag_number Cf = 0
flag_number Pf = 1
flag_number Zf = 2
flag_number Sf = 3
flag_number Of = 4
flag_number Df = 5

-- the flag of a number below 6
abbrev pub flag_of : ℕ → Flag
flag_of n =
    (if n == 0 then Cf else
    (if n == 1 then Pf else
    (if n == 2 then Zf else
    (if n == 3 then Sf else
    (if n == 4 then Of else Df)))))

-- whether two registers are one, and two flags
abbrev pub is_same_reg : Reg → Reg → Bool
is_same_reg a b = reg_number a == reg_number b

abbrev pub is_same_flag : Flag → Flag → Bool
is_same_flag a b = flag_number a == flag_number b

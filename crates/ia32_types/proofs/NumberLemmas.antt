-- Laws of the numbers of registers and flags.

use Rattle.std.proofs.Common.{◌≡◌, ℕ, zero, suc, ◌<◌, refl, arith}
use Rattle.ia32_types.specs.declared.Reg.{Reg}
use Rattle.ia32_types.specs.declared.Reg.TheVariants.{Eax, Ecx, Edx, Ebx, Esp, Ebp, Esi, Edi}
use Rattle.ia32_types.specs.declared.Flag.{Flag}
use Rattle.ia32_types.specs.declared.Flag.TheVariants.{Cf, Pf, Zf, Sf, Of, Df}
use Rattle.ia32_types.specs.Numbers.{reg_number, reg_of, flag_number, flag_of}

-- what holds of each register, and of each flag
pub each_reg : (P : Reg → Type 0) → P Eax → P Ecx → P Edx → P Ebx → P Esp → P Ebp → P Esi → P Edi → (r : Reg) → P r
each_reg P a b c d e f g h Eax = a
each_reg P a b c d e f g h Ecx = b
each_reg P a b c d e f g h Edx = c
each_reg P a b c d e f g h Ebx = d
each_reg P a b c d e f g h Esp = e
each_reg P a b c d e f g h Ebp = f
each_reg P a b c d e f g h Esi = g
each_reg P a b c d e f g h Edi = h

pub each_flag : (P : Flag → Type 0) → P Cf → P Pf → P Zf → P Sf → P Of → P Df → (f : Flag) → P f
each_flag P a b c d e f Cf = a
each_flag P a b c d e f Pf = b
each_flag P a b c d e f Zf = c
each_flag P a b c d e f Sf = d
each_flag P a b c d e f Of = e
each_flag P a b c d e f Df = f

-- what holds of the numbers below 8, and below 6
pub below_eight : (P : ℕ → Type 0) → P 0 → P 1 → P 2 → P 3 → P 4 → P 5 → P 6 → P 7 → (n : ℕ) → n < 8 → P n
below_eight P a b c d e f g h zero lt = a
below_eight P a b c d e f g h (suc zero) lt = b
below_eight P a b c d e f g h (suc (suc zero)) lt = c
below_eight P a b c d e f g h (suc (suc (suc zero))) lt = d
below_eight P a b c d e f g h (suc (suc (suc (suc zero)))) lt = e
below_eight P a b c d e f g h (suc (suc (suc (suc (suc zero))))) lt = f
below_eight P a b c d e f g h (suc (suc (suc (suc (suc (suc zero)))))) lt = g
below_eight P a b c d e f g h (suc (suc (suc (suc (suc (suc (suc zero))))))) lt = h
below_eight P a b c d e f g h (suc (suc (suc (suc (suc (suc (suc (suc n)))))))) lt = absurd (omega arith)

pub below_six : (P : ℕ → Type 0) → P 0 → P 1 → P 2 → P 3 → P 4 → P 5 → (n : ℕ) → n < 6 → P n
below_six P a b c d e f zero lt = a
below_six P a b c d e f (suc zero) lt = b
below_six P a b c d e f (suc (suc zero)) lt = c
below_six P a b c d e f (suc (suc (suc zero))) lt = d
below_six P a b c d e f (suc (suc (suc (suc zero)))) lt = e
below_six P a b c d e f (suc (suc (suc (suc (suc zero))))) lt = f
below_six P a b c d e f (suc (suc (suc (suc (suc (suc n)))))) lt = absurd (omega arith)

-- a number names one register, and each register has a number below 8; so of flags below 6
pub reg_of_number : (r : Reg) → reg_of (reg_number r) ≡ r
reg_of_number = each_reg (λ r. reg_of (reg_number r) ≡ r) refl refl refl refl refl refl refl refl

pub number_of_reg : (n : ℕ) → n < 8 → reg_number (reg_of n) ≡ n
number_of_reg = below_eight (λ n. reg_number (reg_of n) ≡ n) refl refl refl refl refl refl refl refl

pub reg_number_below : (r : Reg) → reg_number r < 8
reg_number_below = each_reg (λ r. reg_number r < 8) (omega arith) (omega arith) (omega arith) (omega arith) (omega arith) (omega arith) (omega arith) (omega arith)

pub flag_of_number : (f : Flag) → flag_of (flag_number f) ≡ f
flag_of_number = each_flag (λ f. flag_of (flag_number f) ≡ f) refl refl refl refl refl refl

pub number_of_flag : (n : ℕ) → n < 6 → flag_number (flag_of n) ≡ n
number_of_flag = below_six (λ n. flag_number (flag_of n) ≡ n) refl refl refl refl refl refl

pub flag_number_below : (f : Flag) → flag_number f < 6
flag_number_below = each_flag (λ f. flag_number f < 6) (omega arith) (omega arith) (omega arith) (omega arith) (omega arith) (omega arith)

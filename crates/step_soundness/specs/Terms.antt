-- What laws on steps speak of. The project's own.
use Rattle.std.specs.Prelude.{◌≡◌, ℕ, ◌+◌, ◌*◌, ◌%◌, ◌<◌, ◌≤◌, true, Option, Some, None}
use Rattle.ia32_types.specs.declared.Mem.{Mem}
use Rattle.ia32_types.specs.declared.Reg.{Reg}
use Rattle.ia32_types.specs.declared.Operand.{Operand}
use Rattle.ia32_types.specs.declared.Operand.TheVariants as operand
use Rattle.ia32_types.specs.Numbers.{reg_number}
use Rattle.ia32_semantics.specs.declared.flags.Flags.{Flags}
use Rattle.ia32_semantics.specs.Effects.{Part, Whole, Word, Low, High}
use Rattle.ia32_semantics.specs.State.{State}
use Rattle.vset.specs.Members.{HasValue}
use Rattle.vset.specs.Values.{CanonicalValues}
use Rattle.vset.specs.World.{World}
use Rattle.abs_semantics.specs.States.{AbsState}
use Rattle.abs_steps.specs.Flags.{MayBe}

-- a number that a part of a register may take
abbrev pub IsPart : Part → ℕ → Type 0
IsPart Whole m = m < 4294967296
IsPart Word m = m < 65536
IsPart Low m = m < 256
IsPart High m = m < 256

-- each flag may be as it is
pub record AreAllowed (may : MayBe) (f : Flags) : Type 0 where
  pub cf : may 0 f.cf ≡ true
  pub pf : may 1 f.pf ≡ true
  pub zf : may 2 f.zf ≡ true
  pub sf : may 3 f.sf ≡ true
  pub of : may 4 f.of ≡ true

-- registers hold their values, in the one form
pub record RegistersHold (lane : ℕ) (world : World) (a : AbsState) (s : State) : Type 0 where
  pub held : (n : ℕ) → n < 8 → HasValue lane world (s.registers n) (a.registers n)
  pub form : (n : ℕ) → CanonicalValues (a.registers n)
  pub sized : (n : ℕ) → s.registers n < 4294967296

abbrev pub register_or_zero : State → Option Reg → ℕ
register_or_zero s None = 0
register_or_zero s (Some r) = s.registers (reg_number r)

-- the address of an operand in memory
abbrev pub address_in : State → Mem → ℕ
address_in s m = (register_or_zero s m.base + register_or_zero s m.index * m.scale + m.disp) % 4294967296

-- an operand as bytes spell it: numbers are words, and a scale is 8 at most
abbrev pub IsOperand : Operand → Type 0
IsOperand (operand.Reg r) = Unit {0}
IsOperand (operand.High r) = Unit {0}
IsOperand (operand.Imm n) = n < 4294967296
IsOperand (operand.Mem m) = (m.scale ≤ 8) × (m.disp < 4294967296)

-- What an operation gives of value-sets and flags. The definitions are the project's own.

use Rattle.std.specs.Prelude.{ℕ, ◌-◌, ◌^◌, ◌==◌, if◌then◌else◌, Option, Some, None}
use Rattle.ia32_types.specs.declared.Op.{Op}
use Rattle.ia32_types.specs.declared.Op.TheVariants as op
use Rattle.si_bits.specs.Concrete as concrete
use Rattle.si_bits.specs.Operations.{up_to}
use Rattle.vset.specs.declared.facts.AbsFlags.{AbsFlags}
use Rattle.vset.specs.Values.{Values, Top}
use Rattle.abs_alu.specs.declared.operands.Arguments.{Arguments}
use Rattle.abs_alu.specs.Computed.{computed}
use Rattle.abs_alu.specs.Flags.{flags_out, after}
use Rattle.abs_alu.specs.Operands.{operands}
use Rattle.abs_alu.specs.Words.{numbers, number, words}

-- what the processor gives, where each operand is known
abbrev pub computed_or : Values → ℕ → Op → Option Arguments → Values
computed_or other w o None = other
computed_or other w o (Some x) = number (concrete.number (computed w o x.first x.second x.carry))

-- at 8 and 16 bits, else every number of so many bits
abbrev pub narrow : ℕ → Op → Option Arguments → Values
narrow w o x = computed_or (numbers (up_to (2 ^ w - 1))) w o x

-- at 32 bits
abbrev pub wide : Op → Values → Values → AbsFlags → Values
wide op.Rol a b f = computed_or Top 32 op.Rol (operands 32 op.Rol a b f)
wide op.Ror a b f = computed_or Top 32 op.Ror (operands 32 op.Ror a b f)
wide o a b f = words o a b f

unfoldable pub value : ℕ → Op → Values → Values → AbsFlags → Values
value w o a b f = if w == 32 then wide o a b f else narrow w o (operands w o a b f)

unfoldable pub flags : ℕ → Op → Values → Values → AbsFlags → AbsFlags
flags w o a b f = after (flags_out w o b (operands w o a b f)) f

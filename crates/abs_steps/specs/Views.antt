-- What an instruction is given: the values of its operands and of registers, and what storing into an operand does. Below 32 bits values are
-- numbers without a sign.
use Rattle.std.specs.Prelude.{ℕ, if◌then◌else◌, List, [], ◌∷◌, Option, Some, None}
use Rattle.ia32_types.specs.declared.Width.{Width}
use Rattle.ia32_types.specs.declared.Operand.{Operand}
use Rattle.ia32_types.specs.declared.Operand.TheVariants as operand
use Rattle.ia32_types.specs.Numbers.{reg_number, size}
use Rattle.ia32_semantics.specs.Effects.{Whole, High}
use Rattle.ia32_semantics.specs.Operands.{part_of}
use Rattle.alocs.specs.Cells.{Division}
use Rattle.vset.specs.declared.facts.AbsFlags.{AbsFlags}
use Rattle.vset.specs.Values.{Values, Top}
use Rattle.abs_semantics.specs.States.{AbsState}
use Rattle.abs_semantics.specs.Accesses.{read}
use Rattle.abs_semantics.specs.Operands.{address, operand_value, read_as, with_register}
use Rattle.abs_steps.specs.Flags.{MayBe, sets_of}
use Rattle.abs_steps.specs.Effects.{AbsEffect, puts, saves}

-- an abstract state at a node of a procedure, where memory is divided into cells
pub record View : Type 0 where
  pub state : AbsState
  pub cells : Division
  pub procedure : ℕ

-- a register's value
abbrev pub held : View → ℕ → Values
held v n = v.state.registers n

abbrev pub flags_held : View → MayBe
flags_held v = v.state.flags

-- the flags as sets
abbrev pub flag_sets : View → AbsFlags
flag_sets v = sets_of v.state.flags

-- the value of an operand that an instruction has
unfoldable pub value_of : View → Width → Option Operand → Values
value_of v width None = Top
value_of v width (Some o) = operand_value v.state v.cells v.procedure width o

-- the address of an operand in memory
unfoldable pub address_of : View → Option Operand → Values
address_of v (Some (operand.Mem m)) = address v.state m
address_of v _ = Top

-- what so many bytes at an address hold
abbrev pub stored_at : View → Width → Values → Values
stored_at v width at = read_as width (read v.state v.cells v.procedure at (size width))

-- memory that counts from GS is never written
unfoldable pub store : View → Width → Operand → Values → List AbsEffect
store v width (operand.Reg r) value = puts (part_of width) (reg_number r) value ∷ []
store v width (operand.High r) value = puts High (reg_number r) value ∷ []
store v width (operand.Imm n) value = []
store v width (operand.Mem m) value = if m.gs then [] else saves (address v.state m) (size width) value ∷ []

unfoldable pub store_to : View → Width → Option Operand → Values → List AbsEffect
store_to v width None value = []
store_to v width (Some o) value = store v width o value

-- the same where a register has another value
abbrev pub with_held : View → ℕ → Values → View
with_held v n value = record v { state = with_register v.state Whole n value }

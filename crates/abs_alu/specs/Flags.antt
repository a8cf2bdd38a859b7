-- The flags after an operation: which may be 0, and which may be 1. The definitions are the project's own.

use Rattle.std.specs.Prelude.{ℕ, ◌==◌, ◌&&◌, not, Bool, true, false, if◌then◌else◌, Option, Some, None}
use Rattle.ia32_types.specs.declared.Flag.{Flag}
use Rattle.ia32_types.specs.declared.Flag.TheVariants.{Cf, Pf, Zf, Sf, Of, Df}
use Rattle.ia32_types.specs.declared.sets.FlagSet.{FlagSet}
use Rattle.ia32_types.specs.declared.Op.{Op}
use Rattle.ia32_types.specs.declared.Op.TheVariants as op
use Rattle.ia32_types.specs.Places.{op_flag_writes}
use Rattle.ia32_types.specs.Sets.{flag_set, has_flag, is_listed_flag}
use Rattle.ia32_semantics.specs.declared.flags.FlagsOut.{FlagsOut}
use Rattle.ia32_semantics.specs.declared.flags.FlagOut.{FlagOut}
use Rattle.ia32_semantics.specs.declared.flags.FlagOut.TheVariants as flag
use Rattle.ia32_semantics.specs.Alu.{kept_flags}
use Rattle.ia32_semantics.specs.Shift.{masked}
use Rattle.vset.specs.declared.facts.AbsFlags.{AbsFlags}
use Rattle.vset.specs.Values.{Values}
use Rattle.abs_alu.specs.declared.operands.Arguments.{Arguments}
use Rattle.abs_alu.specs.Computed.{computed_flags}
use Rattle.abs_alu.specs.Operands.{known}

-- -- One flag

abbrev pub same : Bool → Bool → Bool
same true value = value
same false value = not value

-- whether a flag may have a value afterwards, where it may have had it before or not
abbrev pub may_be : FlagOut → Bool → Bool → Bool
may_be flag.Kept value before = before
may_be (flag.Set v) value before = same v value
may_be flag.Undefined value before = true

-- -- All flags

-- what is done to a flag; DF is kept
abbrev pub done_to : FlagsOut → Flag → FlagOut
done_to out Cf = out.cf
done_to out Pf = out.pf
done_to out Zf = out.zf
done_to out Sf = out.sf
done_to out Of = out.of
done_to out Df = flag.Kept

-- the flags that may have a value afterwards
unfoldable pub flags_after : FlagsOut → Bool → FlagSet → FlagSet
flags_after out value before = flag_set (λ x. may_be (done_to out x) value (has_flag before x))

abbrev pub after : FlagsOut → AbsFlags → AbsFlags
after out f = record { zero = flags_after out false f.zero; one = flags_after out true f.one }

-- -- The operations

abbrev pub any_if : Bool → FlagOut
any_if written = if written then flag.Undefined else flag.Kept

-- each flag that an operation may write may be either
unfoldable pub any_written : Op → FlagsOut
any_written o =
    record {
      cf = any_if (is_listed_flag (op_flag_writes o None) Cf);
      pf = any_if (is_listed_flag (op_flag_writes o None) Pf);
      zf = any_if (is_listed_flag (op_flag_writes o None) Zf);
      sf = any_if (is_listed_flag (op_flag_writes o None) Sf);
      of = any_if (is_listed_flag (op_flag_writes o None) Of);
    }

abbrev pub is_shift : Op → Bool
is_shift op.Shl = true
is_shift op.Shr = true
is_shift op.Sar = true
is_shift op.Rol = true
is_shift op.Ror = true
is_shift _ = false

abbrev pub is_none : Option ℕ → Bool
is_none None = false
is_none (Some count) = masked count == 0

-- where an operand isn't known: a shift or a rotate by a count that is known to be 0 modulo 32 writes no flag
abbrev pub unknown_flags : ℕ → Op → Values → FlagsOut
unknown_flags w o b = if is_shift o && is_none (known w b) then kept_flags else any_written o

-- what is done to the flags: what the processor does, where each operand is known
abbrev pub flags_out : ℕ → Op → Values → Option Arguments → FlagsOut
flags_out w o b None = unknown_flags w o b
flags_out w o b (Some x) = computed_flags w o x.first x.second x.carry

-- What the processor gives by each operation on w bits, and what that does to the flags: those of arithmetic and logic, the shifts
-- and rotates, and the low part of the two products (SDM volume 2, "Operation" and "Flags Affected" of each instruction).

use Rattle.std.specs.Prelude.{ℕ, Bool, true, false}
use Rattle.ia32_types.specs.declared.Op.{Op}
use Rattle.ia32_types.specs.declared.Op.TheVariants as op
use Rattle.ia32_semantics.specs.declared.flags.FlagsOut.{FlagsOut}
use Rattle.ia32_semantics.specs.Alu.{alu_value, alu_flags}
use Rattle.ia32_semantics.specs.Shift.{shift_value, shift_flags}
use Rattle.ia32_semantics.specs.Product.{product_low, product_flags}

-- these operations
unfoldable pub is_computed : Op → Bool
is_computed op.Add = true
is_computed op.Or = true
is_computed op.Adc = true
is_computed op.Sbb = true
is_computed op.And = true
is_computed op.Sub = true
is_computed op.Xor = true
is_computed op.Cmp = true
is_computed op.Test = true
is_computed op.Inc = true
is_computed op.Dec = true
is_computed op.Not = true
is_computed op.Neg = true
is_computed op.Mul = true
is_computed op.Imul = true
is_computed op.Shl = true
is_computed op.Shr = true
is_computed op.Sar = true
is_computed op.Rol = true
is_computed op.Ror = true
is_computed _ = false

unfoldable pub computed : ℕ → Op → ℕ → ℕ → Bool → ℕ
computed w op.Shl a b carry = shift_value w op.Shl a b
computed w op.Shr a b carry = shift_value w op.Shr a b
computed w op.Sar a b carry = shift_value w op.Sar a b
computed w op.Rol a b carry = shift_value w op.Rol a b
computed w op.Ror a b carry = shift_value w op.Ror a b
computed w op.Mul a b carry = product_low w false a b
computed w op.Imul a b carry = product_low w true a b
computed w o a b carry = alu_value w o a b carry

unfoldable pub computed_flags : ℕ → Op → ℕ → ℕ → Bool → FlagsOut
computed_flags w op.Shl a b carry = shift_flags w op.Shl a b
computed_flags w op.Shr a b carry = shift_flags w op.Shr a b
computed_flags w op.Sar a b carry = shift_flags w op.Sar a b
computed_flags w op.Rol a b carry = shift_flags w op.Rol a b
computed_flags w op.Ror a b carry = shift_flags w op.Ror a b
computed_flags w op.Mul a b carry = product_flags w false a b
computed_flags w op.Imul a b carry = product_flags w true a b
computed_flags w o a b carry = alu_flags w o a b carry

-- What the operations of arithmetic and logic give at w bits, and what they do to the flags (SDM volume 2, "Operation" and
-- "Flags Affected" of each instruction). Operands lie below 2^w.
use Rattle.std.specs.Prelude.{ℕ, ◌+◌, ◌-◌, ◌%◌, ◌^◌, ◌==◌, ◌&&◌, not, nat_le, nat_lt, Bool, true, false, if◌then◌else◌, bit_and, bit_or, bit_xor, count_ones}
use Rattle.ia32_types.specs.declared.Op.{Op}
use Rattle.ia32_types.specs.declared.Op.TheVariants as op
use Rattle.ia32_semantics.specs.declared.flags.FlagsOut.{FlagsOut}
use Rattle.ia32_semantics.specs.declared.flags.FlagOut.{FlagOut}
use Rattle.ia32_semantics.specs.declared.flags.FlagOut.TheVariants as flag

-- two truth values aren't the same
abbrev pub differ : Bool → Bool → Bool
differ true b = not b
differ false b = b

-- the top bit of w
unfoldable pub sign : ℕ → ℕ → Bool
sign w value = nat_le (2 ^ (w - 1)) value

-- the low 8 bits have an even number of ones
unfoldable pub has_even_parity : ℕ → Bool
has_even_parity value = count_ones (value % 256) % 2 == 0

-- 1 where a carry is set
abbrev pub carry_value : Bool → ℕ
carry_value carry = if carry then 1 else 0

unfoldable pub sum : ℕ → ℕ → ℕ → Bool → ℕ
sum w a b carry = (a + b + carry_value carry) % 2 ^ w

unfoldable pub difference : ℕ → ℕ → ℕ → Bool → ℕ
difference w a b borrow = (a + 2 ^ w - b - carry_value borrow) % 2 ^ w

-- PF, ZF and SF of a result
unfoldable pub result_flags : ℕ → ℕ → FlagOut → FlagOut → FlagsOut
result_flags w result carry overflow =
    record {
      cf = carry;
      pf = flag.Set (has_even_parity result);
      zf = flag.Set (result == 0);
      sf = flag.Set (sign w result);
      of = overflow;
    }

-- a sum overflows where both operands have one sign and the sum the other
unfoldable pub sum_overflows : ℕ → ℕ → ℕ → ℕ → Bool
sum_overflows w a b result = not (differ (sign w a) (sign w b)) && differ (sign w a) (sign w result)

-- a difference overflows where the operands have two signs, and the difference another than the first
unfoldable pub difference_overflows : ℕ → ℕ → ℕ → ℕ → Bool
difference_overflows w a b result = differ (sign w a) (sign w b) && differ (sign w a) (sign w result)

unfoldable pub sum_carries : ℕ → ℕ → ℕ → Bool → Bool
sum_carries w a b carry = nat_le (2 ^ w) (a + b + carry_value carry)

unfoldable pub difference_borrows : ℕ → ℕ → Bool → Bool
difference_borrows a b borrow = nat_lt a (b + carry_value borrow)

unfoldable pub sum_flags : ℕ → ℕ → ℕ → Bool → FlagsOut
sum_flags w a b carry =
    result_flags w (sum w a b carry) (flag.Set (sum_carries w a b carry)) (flag.Set (sum_overflows w a b (sum w a b carry)))

unfoldable pub difference_flags : ℕ → ℕ → ℕ → Bool → FlagsOut
difference_flags w a b borrow =
    result_flags w (difference w a b borrow) (flag.Set (difference_borrows a b borrow)) (flag.Set (difference_overflows w a b (difference w a b borrow)))

-- of a bitwise operation with this result
unfoldable pub logic_flags : ℕ → ℕ → FlagsOut
logic_flags w result = result_flags w result (flag.Set false) (flag.Set false)

unfoldable pub kept_flags : FlagsOut
kept_flags = record { cf = flag.Kept; pf = flag.Kept; zf = flag.Kept; sf = flag.Kept; of = flag.Kept }

abbrev pub with_carry_kept : FlagsOut → FlagsOut
with_carry_kept f = record f { cf = flag.Kept }

-- The number that an operation gives. One operand is a; cmp and test give what sub and and give, which they don't store. Other
-- operations than these have 0 here.
unfoldable pub alu_value : ℕ → Op → ℕ → ℕ → Bool → ℕ
alu_value w op.Add a b carry = sum w a b false
alu_value w op.Or a b carry = bit_or a b
alu_value w op.Adc a b carry = sum w a b carry
alu_value w op.Sbb a b carry = difference w a b carry
alu_value w op.And a b carry = bit_and a b
alu_value w op.Sub a b carry = difference w a b false
alu_value w op.Xor a b carry = bit_xor a b
alu_value w op.Cmp a b carry = difference w a b false
alu_value w op.Test a b carry = bit_and a b
alu_value w op.Inc a b carry = sum w a 1 false
alu_value w op.Dec a b carry = difference w a 1 false
alu_value w op.Not a b carry = 2 ^ w - 1 - a
alu_value w op.Neg a b carry = difference w 0 a false
alu_value w _ a b carry = 0

unfoldable pub alu_flags : ℕ → Op → ℕ → ℕ → Bool → FlagsOut
alu_flags w op.Add a b carry = sum_flags w a b false
alu_flags w op.Or a b carry = logic_flags w (bit_or a b)
alu_flags w op.Adc a b carry = sum_flags w a b carry
alu_flags w op.Sbb a b carry = difference_flags w a b carry
alu_flags w op.And a b carry = logic_flags w (bit_and a b)
alu_flags w op.Sub a b carry = difference_flags w a b false
alu_flags w op.Xor a b carry = logic_flags w (bit_xor a b)
alu_flags w op.Cmp a b carry = difference_flags w a b false
alu_flags w op.Test a b carry = logic_flags w (bit_and a b)
alu_flags w op.Inc a b carry = with_carry_kept (sum_flags w a 1 false)
alu_flags w op.Dec a b carry = with_carry_kept (difference_flags w a 1 false)
alu_flags w op.Neg a b carry = difference_flags w 0 a false
alu_flags w _ a b carry = kept_flags

-- What shifts and rotates give at w bits, and what they do to the flags (SDM volume 2, "SAL/SAR/SHL/SHR" and
-- "RCL/RCR/ROL/ROR"). The operand lies below 2^w; of the count the low 5 bits alone are used. Which flags are left undefined is
-- the project's own choice.
use Rattle.std.specs.Prelude.{ℕ, ◌+◌, ◌-◌, ◌*◌, ◌/◌, ◌%◌, ◌^◌, ◌==◌, nat_le, Bool, false, if◌then◌else◌}
use Rattle.ia32_types.specs.declared.Op.{Op}
use Rattle.ia32_types.specs.declared.Op.TheVariants as op
use Rattle.ia32_semantics.specs.declared.flags.FlagsOut.{FlagsOut}
use Rattle.ia32_semantics.specs.declared.flags.FlagOut.{FlagOut}
use Rattle.ia32_semantics.specs.declared.flags.FlagOut.TheVariants as flag
use Rattle.ia32_semantics.specs.Alu.{differ, sign, result_flags, kept_flags}

unfoldable pub shifted_left : ℕ → ℕ → ℕ → ℕ
shifted_left w a n = a * 2 ^ n % 2 ^ w

unfoldable pub shifted_right : ℕ → ℕ → ℕ
shifted_right a n = a / 2 ^ n

-- with copies of the sign from above: of a negative number, the complement of what its complement gives
unfoldable pub shifted_signed : ℕ → ℕ → ℕ → ℕ
shifted_signed w a n = if sign w a then 2 ^ w - 1 - (2 ^ w - 1 - a) / 2 ^ n else a / 2 ^ n

unfoldable pub rotated_left : ℕ → ℕ → ℕ → ℕ
rotated_left w a n = a * 2 ^ (n % w) % 2 ^ w + a / 2 ^ (w - n % w)

unfoldable pub rotated_right : ℕ → ℕ → ℕ → ℕ
rotated_right w a n = a / 2 ^ (n % w) + a * 2 ^ (w - n % w) % 2 ^ w

unfoldable pub low_bit : ℕ → Bool
low_bit value = value % 2 == 1

-- the bit below the top one of w
unfoldable pub second_bit : ℕ → ℕ → Bool
second_bit w value = low_bit (value / 2 ^ (w - 2))

-- a flag that only a count of 1 defines
abbrev pub set_by_one : ℕ → Bool → FlagOut
set_by_one n value = if n == 1 then flag.Set value else flag.Undefined

-- a carry that only a count below the width defines
abbrev pub set_below : ℕ → ℕ → Bool → FlagOut
set_below w n value = if nat_le w n then flag.Undefined else flag.Set value

-- Below, the count n lies in 1 to 31. The last bit that a shift loses is the outermost one after a shift by one less.
unfoldable pub left_flags : ℕ → ℕ → ℕ → FlagsOut
left_flags w a n =
    result_flags w (shifted_left w a n) (set_below w n (sign w (shifted_left w a (n - 1))))
    (set_by_one n (differ (sign w (shifted_left w a n)) (sign w (shifted_left w a (n - 1)))))

unfoldable pub right_flags : ℕ → ℕ → ℕ → FlagsOut
right_flags w a n = result_flags w (shifted_right a n) (set_below w n (low_bit (shifted_right a (n - 1)))) (set_by_one n (sign w a))

unfoldable pub signed_flags : ℕ → ℕ → ℕ → FlagsOut
signed_flags w a n = result_flags w (shifted_signed w a n) (flag.Set (low_bit (shifted_signed w a (n - 1)))) (set_by_one n false)

-- of a rotate, which keeps the flags of the result
abbrev pub turn_flags : Bool → FlagOut → FlagsOut
turn_flags carry overflow = record kept_flags { cf = flag.Set carry; of = overflow }

unfoldable pub rotated_left_flags : ℕ → ℕ → ℕ → FlagsOut
rotated_left_flags w a n =
    turn_flags (low_bit (rotated_left w a n)) (set_by_one n (differ (sign w (rotated_left w a n)) (low_bit (rotated_left w a n))))

unfoldable pub rotated_right_flags : ℕ → ℕ → ℕ → FlagsOut
rotated_right_flags w a n =
    turn_flags (sign w (rotated_right w a n)) (set_by_one n (differ (sign w (rotated_right w a n)) (second_bit w (rotated_right w a n))))

-- how far a count shifts
abbrev pub masked : ℕ → ℕ
masked count = count % 32

-- What an operation gives by a masked count. Other operations than these have 0 here.
unfoldable pub shift_by : ℕ → Op → ℕ → ℕ → ℕ
shift_by w op.Shl a n = shifted_left w a n
shift_by w op.Shr a n = shifted_right a n
shift_by w op.Sar a n = shifted_signed w a n
shift_by w op.Rol a n = rotated_left w a n
shift_by w op.Ror a n = rotated_right w a n
shift_by w _ a n = 0

-- its flags, where the masked count isn't 0
unfoldable pub shift_flags_by : ℕ → Op → ℕ → ℕ → FlagsOut
shift_flags_by w op.Shl a n = left_flags w a n
shift_flags_by w op.Shr a n = right_flags w a n
shift_flags_by w op.Sar a n = signed_flags w a n
shift_flags_by w op.Rol a n = rotated_left_flags w a n
shift_flags_by w op.Ror a n = rotated_right_flags w a n
shift_flags_by w _ a n = kept_flags

unfoldable pub shift_value : ℕ → Op → ℕ → ℕ → ℕ
shift_value w o a count = shift_by w o a (masked count)

unfoldable pub shift_flags : ℕ → Op → ℕ → ℕ → FlagsOut
shift_flags w o a count = if masked count == 0 then kept_flags else shift_flags_by w o a (masked count)

-- The values that operations on 32 bits give. Sums and differences have a region; the others take numbers alone, and give every
-- value of anything else. The formulas are the project's own.

use Rattle.std.specs.Prelude.{ℕ, Bool, true, false, [], ◌∷◌, Option, Some, ℤ, pos, negsuc}
use Rattle.image_map.specs.declared.region.RegionId.TheVariants.{Global}
use Rattle.ia32_types.specs.declared.Op.{Op}
use Rattle.ia32_types.specs.declared.Op.TheVariants as op
use Rattle.ia32_types.specs.declared.Flag.TheVariants.{Cf}
use Rattle.ia32_types.specs.Sets.{has_flag}
use Rattle.ia32_semantics.specs.Shift.{masked}
use Rattle.strided.specs.Interval.{Interval, full, one}
use Rattle.si_bits.specs.Operations as bits
use Rattle.vset.specs.declared.facts.AbsFlags.{AbsFlags}
use Rattle.vset.specs.Operations.{part, add, sub, join}
use Rattle.vset.specs.Values.{Values, Top, Parts, settled, only_number}
use Rattle.abs_alu.specs.Operands.{known}

-- the numbers of an interval
abbrev pub numbers : Interval → Values
numbers x = settled (part Global x ∷ [])

abbrev pub number : ℤ → Values
number z = numbers (one z)

-- -- With CF

-- what a carry of 0 gives, what a carry of 1 gives, or both, as CF may be
abbrev pub by_carry : Bool → Bool → Values → Values → Values
by_carry true true clear set = join clear set
by_carry true false clear set = clear
by_carry false true clear set = set
by_carry false false clear set = Parts []

-- the sum of a sum and a carry, and the difference of a difference and one
abbrev pub carried : Op → Values → Values → ℤ → Values
carried op.Adc a b carry = add (add a b) (number carry)
carried _ a b carry = sub (sub a b) (number carry)

unfoldable pub with_carries : Op → Values → Values → AbsFlags → Values
with_carries o a b f = by_carry (has_flag f.zero Cf) (has_flag f.one Cf) (carried o a b (pos 0)) (carried o a b (pos 1))

-- -- Numbers alone

-- the operations on two intervals
unfoldable pub interval_of : Op → Interval → Interval → Interval
interval_of op.And x y = bits.and x y
interval_of op.Test x y = bits.and x y
interval_of op.Or x y = bits.or x y
interval_of op.Xor x y = bits.xor x y
interval_of op.Mul x y = bits.mul x y
interval_of op.Imul x y = bits.mul x y
interval_of _ x y = full

abbrev pub of_intervals : Op → Option Interval → Option Interval → Values
of_intervals o (Some x) (Some y) = numbers (interval_of o x y)
of_intervals o _ _ = Top

unfoldable pub of_numbers : Op → Values → Values → Values
of_numbers o a b = of_intervals o (only_number a) (only_number b)

-- the shifts of an interval
unfoldable pub shifted_by : Op → Interval → ℕ → Interval
shifted_by op.Shl x count = bits.shl x count
shifted_by op.Shr x count = bits.shr x count
shifted_by op.Sar x count = bits.sar x count
shifted_by _ x count = full

abbrev pub shifted_interval : Op → Option Interval → Option ℕ → Values
shifted_interval o (Some x) (Some count) = numbers (shifted_by o x (masked count))
shifted_interval o _ _ = Top

-- by the low five bits of one number
unfoldable pub shifted : Op → Values → Values → Values
shifted o a count = shifted_interval o (only_number a) (known 32 count)

-- -- The operations

-- a rotate of anything but two numbers gives every value, and so does any other operation
unfoldable pub words : Op → Values → Values → AbsFlags → Values
words op.Add a b f = add a b
words op.Or a b f = of_numbers op.Or a b
words op.Adc a b f = with_carries op.Adc a b f
words op.Sbb a b f = with_carries op.Sbb a b f
words op.And a b f = of_numbers op.And a b
words op.Sub a b f = sub a b
words op.Xor a b f = of_numbers op.Xor a b
words op.Cmp a b f = sub a b
words op.Test a b f = of_numbers op.Test a b
words op.Inc a b f = add a (number (pos 1))
words op.Dec a b f = sub a (number (pos 1))
words op.Not a b f = sub (number (negsuc 0)) a
words op.Neg a b f = sub (number (pos 0)) a
words op.Mul a b f = of_numbers op.Mul a b
words op.Imul a b f = of_numbers op.Imul a b
words op.Shl a b f = shifted op.Shl a b
words op.Shr a b f = shifted op.Shr a b
words op.Sar a b f = shifted op.Sar a b
words _ a b f = Top

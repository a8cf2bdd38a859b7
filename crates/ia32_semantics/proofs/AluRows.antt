-- Rows of arithmetic that are easily got wrong, computed.
use Rattle.std.proofs.Common.{◌≡◌, Bool, true, false, Some, None, refl}
use lib.Count.{ones}
use Rattle.ia32_types.specs.declared.Op.TheVariants as op
use Rattle.ia32_semantics.specs.declared.flags.FlagsOut.{FlagsOut}
use Rattle.ia32_semantics.specs.declared.flags.FlagOut.{FlagOut}
use Rattle.ia32_semantics.specs.declared.flags.FlagOut.TheVariants as flag
use Rattle.ia32_semantics.specs.Alu.{sign, has_even_parity, sum, difference, result_flags, sum_overflows, difference_overflows, sum_carries, difference_borrows, sum_flags, difference_flags, kept_flags, alu_value, alu_flags}
use Rattle.ia32_semantics.specs.Shift.{shifted_left, shifted_right, shifted_signed, rotated_left, rotated_right, low_bit, second_bit, left_flags, right_flags, signed_flags, rotated_left_flags, rotated_right_flags, shift_by, shift_flags_by, shift_value, shift_flags}
use Rattle.ia32_semantics.specs.Product.{extended, product, product_low, product_high, product_spills, product_flags}
use Rattle.ia32_semantics.specs.Division.{dividend, unsigned_division, signed_as, magnitude, quotient_fits, division_of_sizes, signed_division, division}

abbrev flags : FlagOut → FlagOut → FlagOut → FlagOut → FlagOut → FlagsOut
flags cf pf zf sf of = record { cf = cf; pf = pf; zf = zf; sf = sf; of = of }

abbrev set : Bool → FlagOut
set = flag.Set

-- FF + FF + 1 at 8 bits carries into FF
adc_full : alu_value 8 op.Adc 0xFF 0xFF true ≡ 0xFF
unfolding alu_value sum
adc_full = refl

adc_full_flags : alu_flags 8 op.Adc 0xFF 0xFF true ≡ flags (set true) (set true) (set false) (set true) (set false)
unfolding alu_flags sum sum_flags sum_overflows sum_carries result_flags sign has_even_parity ones
adc_full_flags = refl

-- 0 - FFFFFFFF - 1 borrows and gives 0
sbb_full : alu_value 32 op.Sbb 0 0xFFFFFFFF true ≡ 0
unfolding alu_value difference
sbb_full = refl

sbb_full_flags : alu_flags 32 op.Sbb 0 0xFFFFFFFF true ≡ flags (set true) (set true) (set true) (set false) (set false)
unfolding alu_flags difference difference_flags difference_overflows difference_borrows result_flags sign has_even_parity ones
sbb_full_flags = refl

-- 80 overflows when it is negated, and 0 alone doesn't carry
neg_least_flags : alu_flags 8 op.Neg 0x80 0 false ≡ flags (set true) (set false) (set false) (set true) (set true)
unfolding alu_flags difference difference_flags difference_overflows difference_borrows result_flags sign has_even_parity ones
neg_least_flags = refl

neg_zero_flags : alu_flags 16 op.Neg 0 0 true ≡ flags (set false) (set true) (set true) (set false) (set false)
unfolding alu_flags difference difference_flags difference_overflows difference_borrows result_flags sign has_even_parity ones
neg_zero_flags = refl

-- 7FFF + 1 overflows and keeps CF
inc_greatest_flags : alu_flags 16 op.Inc 0x7FFF 0 true ≡ flags flag.Kept (set true) (set false) (set true) (set true)
unfolding alu_flags sum sum_flags sum_overflows sum_carries result_flags sign has_even_parity ones
inc_greatest_flags = refl

-- a byte shifted left by 9: nothing is left, and CF is undefined
shl_nine : shift_value 8 op.Shl 0xFF 9 ≡ 0
unfolding shift_value shift_by shifted_left
shl_nine = refl

shl_nine_flags : shift_flags 8 op.Shl 0xFF 9 ≡ flags flag.Undefined (set true) (set true) (set false) flag.Undefined
unfolding shift_flags shift_flags_by left_flags shifted_left result_flags sign has_even_parity ones
shl_nine_flags = refl

-- by 8, the width, CF is undefined as by 9
shl_eight_flags : shift_flags 8 op.Shl 0xFF 8 ≡ flags flag.Undefined (set true) (set true) (set false) flag.Undefined
unfolding shift_flags shift_flags_by left_flags shifted_left result_flags sign has_even_parity ones
shl_eight_flags = refl

-- by 33 it is shifted by 1
shl_one_flags : shift_flags 8 op.Shl 0xC0 33 ≡ flags (set true) (set false) (set false) (set true) (set false)
unfolding shift_flags shift_flags_by left_flags shifted_left result_flags sign has_even_parity ones
shl_one_flags = refl

shl_none_flags : shift_flags 32 op.Shl 5 32 ≡ flags flag.Kept flag.Kept flag.Kept flag.Kept flag.Kept
unfolding shift_flags kept_flags
shl_none_flags = refl

-- shr by 1: CF is the low bit, OF the old sign
shr_one_flags : shift_flags 16 op.Shr 0x8001 1 ≡ flags (set true) (set true) (set false) (set false) (set true)
unfolding shift_flags shift_flags_by right_flags shifted_right result_flags sign has_even_parity low_bit ones
shr_one_flags = refl

-- sar fills with the sign, past the width too, and its CF is defined at every count
sar_all : shift_value 8 op.Sar 0x80 20 ≡ 0xFF
unfolding shift_value shift_by shifted_signed sign
sar_all = refl

sar_all_flags : shift_flags 8 op.Sar 0x80 20 ≡ flags (set true) (set true) (set false) (set true) flag.Undefined
unfolding shift_flags shift_flags_by signed_flags shifted_signed result_flags sign has_even_parity low_bit ones
sar_all_flags = refl

-- rol of a byte by 9 turns it by 1, but OF is undefined; by 8 it stays, and CF is its low bit
rol_nine : shift_value 8 op.Rol 0x81 9 ≡ 0x03
unfolding shift_value shift_by rotated_left
rol_nine = refl

rol_eight_flags : shift_flags 8 op.Rol 0x81 8 ≡ flags (set true) flag.Kept flag.Kept flag.Kept flag.Undefined
unfolding shift_flags shift_flags_by rotated_left_flags rotated_left low_bit kept_flags sign
rol_eight_flags = refl

ror_one : shift_value 32 op.Ror 1 1 ≡ 0x80000000
unfolding shift_value shift_by rotated_right
ror_one = refl

ror_one_flags : shift_flags 32 op.Ror 1 1 ≡ flags (set true) flag.Kept flag.Kept flag.Kept (set true)
unfolding shift_flags shift_flags_by rotated_right_flags rotated_right low_bit second_bit kept_flags sign
ror_one_flags = refl

-- -1 times 2 fits, and the same as unsigned numbers doesn't
imul_fits : product_flags 32 true 0xFFFFFFFF 2 ≡ flags (set false) flag.Undefined flag.Undefined flag.Undefined (set false)
unfolding product_flags product_spills product product_low extended sign
imul_fits = refl

imul_high : product_high 32 true 0xFFFFFFFF 2 ≡ 0xFFFFFFFF
unfolding product_high product extended sign
imul_high = refl

mul_spills : product_flags 32 false 0xFFFFFFFF 2 ≡ flags (set true) flag.Undefined flag.Undefined flag.Undefined (set true)
unfolding product_flags product_spills product product_low extended sign
mul_spills = refl

mul_high : product_high 16 false 0xFFFF 0xFFFF ≡ 0xFFFE
unfolding product_high product extended sign
mul_high = refl

-- -7 by 2 is -3 with the remainder -1, and -128 by -1 doesn't fit into a byte
idiv_toward_zero : division 8 true 0xFF 0xF9 2 ≡ Some (0xFD, 0xFF)
unfolding division signed_division dividend division_of_sizes magnitude quotient_fits signed_as sign
idiv_toward_zero = refl

idiv_too_great : division 8 true 0xFF 0x80 0xFF ≡ None
unfolding division signed_division dividend division_of_sizes magnitude quotient_fits signed_as sign
idiv_too_great = refl

idiv_least : division 8 true 0xFF 0x80 1 ≡ Some (0x80, 0)
unfolding division signed_division dividend division_of_sizes magnitude quotient_fits signed_as sign
idiv_least = refl

div_too_great : division 32 false 1 0 1 ≡ None
unfolding division unsigned_division dividend
div_too_great = refl

div_by_zero : division 16 false 0 1 0 ≡ None
unfolding division unsigned_division dividend
div_by_zero = refl

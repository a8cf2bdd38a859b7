-- What operations give of values beside those of arithmetic: extensions, signs, conditions, quotients, and an aligned stack pointer. The rules are the
-- project's own.
use Rattle.std.specs.Prelude.{ℕ, ◌^◌, ◌-◌, ◌&&◌, Bool, true, false, ℤ, pos, negsuc, ◌+ℤ◌, int_le, int_lt, if◌then◌else◌, List, [], ◌∷◌, Option, Some, None}
use Rattle.std.specs.Ordering.{int_eq}
use Rattle.image_map.specs.declared.region.RegionId.{RegionId}
use Rattle.image_map.specs.declared.region.RegionId.TheVariants.{Frame}
use Rattle.ia32_types.specs.declared.Width.{Width}
use Rattle.ia32_types.specs.declared.Width.TheVariants.{B8, W16, D32}
use Rattle.ia32_types.specs.declared.Operand.{Operand}
use Rattle.ia32_types.specs.declared.Operand.TheVariants as operand
use Rattle.ia32_types.specs.declared.Op.{Op}
use Rattle.ia32_types.specs.declared.Op.TheVariants as op
use Rattle.ia32_types.specs.Numbers.{is_same_reg}
use Rattle.ia32_semantics.specs.Operands.{bits}
use Rattle.ia32_semantics.specs.Product.{extended}
use Rattle.ia32_semantics.specs.Division.{division}
use Rattle.strided.specs.Interval.{Interval}
use Rattle.strided.specs.Operations.{only, spaced}
use Rattle.si_bits.specs.Operations.{sign_extend, up_to}
use Rattle.vset.specs.Values.{Values, Top, Parts, only_number}
use Rattle.vset.specs.Operations.{join, sub}
use Rattle.abs_alu.specs.Flags.{is_shift, is_none}
use Rattle.abs_alu.specs.Operands.{known}
use Rattle.abs_alu.specs.Words.{numbers, number}
use Rattle.abs_semantics.specs.declared.parts.Known.{Known}
use Rattle.abs_semantics.specs.States.{known_of}
use Rattle.abs_semantics.specs.Operands.{any_of, word_number, is_up_to}
use Rattle.abs_steps.specs.Flags.{MayBe, may_hold, decided}
use Rattle.abs_steps.specs.Calls.{remainder}

-- -- A register with itself

abbrev pub is_own_inverse : Op → Bool
is_own_inverse op.Xor = true
is_own_inverse op.Sub = true
is_own_inverse _ = false

abbrev pub is_dword : Width → Bool
is_dword D32 = true
is_dword _ = false

abbrev pub are_one_register : Option Operand → Option Operand → Bool
are_one_register (Some (operand.Reg r)) (Some (operand.Reg q)) = is_same_reg r q
are_one_register _ _ = false

-- the operation gives 0, whatever the register holds
unfoldable pub is_zero : Op → Width → Option Operand → Option Operand → Bool
is_zero o width first second = is_own_inverse o && (is_dword width && are_one_register first second)

-- -- An offset in an activation whose base is known modulo 16, lowered to a multiple of a power of 2

-- 2^t of -2^t, where t is at most 4
abbrev pub power_of : Option ℤ → Option ℕ
power_of None = None
power_of (Some z) =
    (if int_eq z (negsuc 0) then Some 1 else
    (if int_eq z (negsuc 1) then Some 2 else
    (if int_eq z (negsuc 3) then Some 4 else
    (if int_eq z (negsuc 7) then Some 8 else
    (if int_eq z (negsuc 15) then Some 16 else None)))))

abbrev pub only_of : Option Interval → Option ℤ
only_of None = None
only_of (Some si) = only si

-- of the newest activations alone
abbrev pub align_of : List Known → RegionId → Option ℕ
align_of aligns (Frame p) = known_of (Frame p) aligns
align_of aligns _ = None

abbrev pub lowered : Option ℕ → Option ℤ → Option ℕ → Values → Option Values
lowered (Some base) (Some offset) (Some m) v = Some (sub v (number (pos (remainder (pos base +ℤ offset) m))))
lowered _ _ _ v = None

abbrev pub lowered_by : List Known → Values → Values → Option Values
lowered_by aligns (Parts (x ∷ [])) mask = lowered (align_of aligns x.region) (only x.si) (power_of (only_of (only_number mask))) (Parts (x ∷ []))
lowered_by aligns _ mask = None

-- the first that is there
abbrev pub first_of : Option Values → Option Values → Values → Values
first_of (Some v) second other = v
first_of None (Some v) other = v
first_of None None other = other

-- what an operation gives, where its own rule gives `other`
unfoldable pub aligned_or : List Known → Op → Width → Values → Values → Values → Values
aligned_or aligns op.And D32 x y other = first_of (lowered_by aligns x y) (lowered_by aligns y x) other
aligned_or aligns _ width x y other = other

-- -- Flags

-- the operation writes no flag: not, and a shift or a rotate by a count that is known to be 0 modulo 32
unfoldable pub keeps_flags : ℕ → Op → Values → Bool
keeps_flags w op.Not b = true
keeps_flags w o b = if is_shift o then is_none (known w b) else false

-- -- Extensions

-- of numbers of so many bits, which the operands of these widths are
abbrev pub extended_within : ℕ → Interval → Values
extended_within w x = if is_up_to (2 ^ w - 1) (Some x) then numbers (sign_extend w x) else Top

abbrev pub sign_extended : Width → Option Interval → Values
sign_extended B8 (Some x) = extended_within 8 x
sign_extended W16 (Some x) = extended_within 16 x
sign_extended _ _ = Top

-- a byte or a word at 16 bits
abbrev pub extended_or_any : Bool → Width → Option ℕ → Values
extended_or_any signed from None = any_of W16
extended_or_any signed from (Some n) = word_number (extended signed (bits from) 16 n)

-- A value of a narrower source, extended with zeros or with its sign; there are no sources and results of other widths.
unfoldable pub widened : Bool → Width → Width → Values → Values
widened false from D32 v = v
widened true from D32 v = sign_extended from (only_number v)
widened signed B8 W16 v = extended_or_any signed B8 (known 8 v)
widened signed W16 W16 v = extended_or_any signed W16 (known 16 v)
widened signed _ to v = any_of to

-- -1 or 0
abbrev pub either_sign : Values
either_sign = numbers (spaced 1 (negsuc 0) (pos 0))

abbrev pub sign_of_numbers : Option Interval → Values
sign_of_numbers None = either_sign
sign_of_numbers (Some x) =
    if int_le (pos 0) x.lo then number (pos 0) else (if int_lt x.hi (pos 0) then number (negsuc 0) else either_sign)

-- copies of the sign
unfoldable pub sign_of : Values → Values
sign_of v = sign_of_numbers (only_number v)

-- -- Conditions

-- 1 where the condition holds
unfoldable pub truth_of : ℕ → MayBe → Values
truth_of condition may =
    decided (may_hold condition may true) (may_hold condition may false) (number (pos 1)) (number (pos 0)) (numbers (up_to 1))

-- the first where the condition holds, and else the second
unfoldable pub chosen_by : ℕ → MayBe → Values → Values → Values
chosen_by condition may new old =
    decided (may_hold condition may true) (may_hold condition may false) new old (join new old)

-- -- Quotients

-- of words that are known, where there is a quotient
abbrev pub quotient_of : Bool → Option ℕ → Option ℕ → Option ℕ → Option (ℕ × ℕ)
quotient_of signed (Some high) (Some low) (Some by) = division 32 signed high low by
quotient_of signed _ _ _ = None

-- quotient and remainder at 32 bits
abbrev pub known_quotient : Width → Bool → Values → Values → Values → Option (ℕ × ℕ)
known_quotient D32 signed high low by = quotient_of signed (known 32 high) (known 32 low) (known 32 by)
known_quotient _ signed high low by = None

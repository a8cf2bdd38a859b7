-- Quotient and remainder of a number of 2w bits, given as its two halves, by a number of w bits (SDM volume 2, "DIV" and
-- "IDIV"): none where the divisor is 0 or the quotient doesn't fit into w bits. A signed quotient is rounded toward 0, and its
-- remainder has the sign of what is divided.
use Rattle.std.specs.Prelude.{ℕ, ◌+◌, ◌-◌, ◌*◌, ◌/◌, ◌%◌, ◌^◌, ◌==◌, ◌||◌, nat_le, nat_lt, Bool, if◌then◌else◌, Option, Some, None}
use Rattle.ia32_semantics.specs.declared.flags.FlagsOut.{FlagsOut}
use Rattle.ia32_semantics.specs.declared.flags.FlagOut.TheVariants as flag
use Rattle.ia32_semantics.specs.Alu.{differ, sign}

unfoldable pub dividend : ℕ → ℕ → ℕ → ℕ
dividend w high low = high * 2 ^ w + low

unfoldable pub unsigned_division : ℕ → ℕ → ℕ → Option (ℕ × ℕ)
unsigned_division w n by = if by == 0 || nat_le (2 ^ w) (n / by) then None else Some (n / by, n % by)

-- minus a number of w bits, where it is to be negative
unfoldable pub signed_as : ℕ → Bool → ℕ → ℕ
signed_as w negative value = if negative then (2 ^ w - value) % 2 ^ w else value

-- the size of a signed number of w bits
unfoldable pub magnitude : ℕ → ℕ → ℕ
magnitude w value = if sign w value then 2 ^ w - value else value

-- a quotient of this size fits: from -2^(w-1) to 2^(w-1) - 1
unfoldable pub quotient_fits : ℕ → Bool → ℕ → Bool
quotient_fits w negative size = if negative then nat_le size (2 ^ (w - 1)) else nat_lt size (2 ^ (w - 1))

-- of the sizes n and by, where the dividend and the quotient are negative as told
unfoldable pub division_of_sizes : ℕ → Bool → Bool → ℕ → ℕ → Option (ℕ × ℕ)
division_of_sizes w is_negative has_negative_quotient n by =
    if by == 0 then None
    else (if quotient_fits w has_negative_quotient (n / by)
    then Some (signed_as w has_negative_quotient (n / by), signed_as w is_negative (n % by))
    else None)

unfoldable pub signed_division : ℕ → ℕ → ℕ → Option (ℕ × ℕ)
signed_division w n by =
    division_of_sizes w (sign (2 * w) n) (differ (sign (2 * w) n) (sign w by)) (magnitude (2 * w) n) (magnitude w by)

unfoldable pub division : ℕ → Bool → ℕ → ℕ → ℕ → Option (ℕ × ℕ)
division w signed high low by = if signed then signed_division w (dividend w high low) by else unsigned_division w (dividend w high low) by

unfoldable pub division_flags : FlagsOut
division_flags = record { cf = flag.Undefined; pf = flag.Undefined; zf = flag.Undefined; sf = flag.Undefined; of = flag.Undefined }

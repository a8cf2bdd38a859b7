-- Products of two numbers of w bits (SDM volume 2, "MUL" and "IMUL"). Which flags are left undefined is the project's own choice.
use Rattle.std.specs.Prelude.{ℕ, ◌+◌, ◌-◌, ◌*◌, ◌/◌, ◌%◌, ◌^◌, ◌==◌, ◌&&◌, not, Bool, if◌then◌else◌}
use Rattle.ia32_semantics.specs.declared.flags.FlagsOut.{FlagsOut}
use Rattle.ia32_semantics.specs.declared.flags.FlagOut.TheVariants as flag
use Rattle.ia32_semantics.specs.Alu.{sign}

-- a number of `from` bits at the greater width `to`, with zeros or with copies of its sign above it
unfoldable pub extended : Bool → ℕ → ℕ → ℕ → ℕ
extended signed from to value = if signed && sign from value then value + 2 ^ to - 2 ^ from else value

-- the product at twice the width
unfoldable pub product : ℕ → Bool → ℕ → ℕ → ℕ
product w signed a b = extended signed w (2 * w) a * extended signed w (2 * w) b % 2 ^ (2 * w)

unfoldable pub product_low : ℕ → Bool → ℕ → ℕ → ℕ
product_low w signed a b = product w signed a b % 2 ^ w

unfoldable pub product_high : ℕ → Bool → ℕ → ℕ → ℕ
product_high w signed a b = product w signed a b / 2 ^ w

-- the product isn't its low part at twice the width
unfoldable pub product_spills : ℕ → Bool → ℕ → ℕ → Bool
product_spills w signed a b = not (product w signed a b == extended signed w (2 * w) (product_low w signed a b))

unfoldable pub product_flags : ℕ → Bool → ℕ → ℕ → FlagsOut
product_flags w signed a b =
    record {
      cf = flag.Set (product_spills w signed a b);
      pf = flag.Undefined;
      zf = flag.Undefined;
      sf = flag.Undefined;
      of = flag.Set (product_spills w signed a b);
    }

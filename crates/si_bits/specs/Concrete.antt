-- What the processor computes on words of 32 bits, read as signed numbers in two's complement. The instructions are
-- those of the Intel SDM, volume 2: AND, OR, XOR, the low half of MUL and IMUL, SHL, SHR, SAR, MOVSX, and the low parts of a register.
use Rattle.std.specs.Prelude.{ℕ, ◌+◌, ◌-◌, ◌*◌, ◌/◌, ◌%◌, ◌^◌, ℤ, nat_lt, bit_and, bit_or, bit_xor, if◌then◌else◌}
use Rattle.std.specs.Int.{cast_signed, cast_unsigned, w32}

-- the 32 bits of a signed number, as a number below 2^32
abbrev pub word : ℤ → ℕ
word v = cast_unsigned w32 v

-- the signed number that has these 32 bits: from 2^31 on they stand for a negative one
abbrev pub number : ℕ → ℤ
number x = cast_signed w32 x

unfoldable pub and_of : ℤ → ℤ → ℤ
and_of v w = number (bit_and (word v) (word w))

unfoldable pub or_of : ℤ → ℤ → ℤ
or_of v w = number (bit_or (word v) (word w))

unfoldable pub xor_of : ℤ → ℤ → ℤ
xor_of v w = number (bit_xor (word v) (word w))

-- the low 32 bits of the product
unfoldable pub product_of : ℤ → ℤ → ℤ
product_of v w = number (word v * word w % 2 ^ 32)

-- bits move up, and those that leave the word are lost
unfoldable pub shl_of : ℕ → ℤ → ℤ
shl_of n v = number (word v * 2 ^ n % 2 ^ 32)

-- bits move down, with zeros from above
unfoldable pub shr_of : ℕ → ℤ → ℤ
shr_of n v = number (word v / 2 ^ n)

-- bits move down, with copies of bit 31 from above: where it is set, the n highest bits become ones
unfoldable pub sar_word : ℕ → ℕ → ℕ
sar_word n x = x / 2 ^ n + (if nat_lt x (2 ^ 31) then 0 else 2 ^ 32 - 2 ^ (32 - n))

unfoldable pub sar_of : ℕ → ℤ → ℤ
sar_of n v = number (sar_word n (word v))

-- the low w bits, and zeros above
unfoldable pub low_of : ℕ → ℤ → ℤ
low_of w v = number (word v % 2 ^ w)

-- the low w bits, and copies of bit w - 1 above
unfoldable pub extended_word : ℕ → ℕ → ℕ
extended_word w x = x % 2 ^ w + (if nat_lt (x % 2 ^ w) (2 ^ (w - 1)) then 0 else 2 ^ 32 - 2 ^ w)

unfoldable pub extension_of : ℕ → ℤ → ℤ
extension_of w v = number (extended_word w (word v))

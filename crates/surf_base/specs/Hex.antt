-- Hexadecimal digits, as ASCII characters.
use Rattle.std.specs.Prelude.{ℕ, ◌+◌, ◌/◌, ◌%◌, nat_lt, if◌then◌else◌, List, [], ◌∷◌}

-- the lower-case digit of a number below 16: '0' is 48, and 'a' is 87 + 10
abbrev pub hex_digit : ℕ → ℕ
hex_digit digit = if nat_lt digit 10 then 48 + digit else 87 + digit

-- the eight digits of a number of 32 bits, the highest first
unfoldable pub hex8_text : ℕ → List ℕ
hex8_text value =
    hex_digit (value / 0x10000000 % 16) ∷ hex_digit (value / 0x1000000 % 16) ∷ hex_digit (value / 0x100000 % 16)
    ∷ hex_digit (value / 0x10000 % 16) ∷ hex_digit (value / 0x1000 % 16) ∷ hex_digit (value / 0x100 % 16)
    ∷ hex_digit (value / 0x10 % 16) ∷ hex_digit (value % 16) ∷ []

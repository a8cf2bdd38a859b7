-- What a processor computes: sums, differences and negations of 32 bits, read as signed numbers in two's
-- complement (Intel SDM volume 1, section 4.2.1, "Integers").
use Rattle.std.specs.Prelude.{ℤ, pos, ◌+ℤ◌, ◌-ℤ◌}
use Rattle.std.specs.Int.{int_wrap, w32}

-- the signed number that is z modulo 2^32
abbrev pub signed : ℤ → ℤ
signed z = int_wrap w32 z

abbrev pub sum_of : ℤ → ℤ → ℤ
sum_of v w = signed (v +ℤ w)

abbrev pub difference_of : ℤ → ℤ → ℤ
difference_of v w = signed (v -ℤ w)

abbrev pub negation_of : ℤ → ℤ
negation_of v = signed (pos 0 -ℤ v)

-- One formula over the integers for each operation on strided intervals. They are the project's own.
use Rattle.std.specs.Prelude.{ℕ, ◌-◌, ◌*◌, ◌/◌, ◌%◌, ◌^◌, ◌==◌, ◌&&◌, Bool, if◌then◌else◌, ℤ, pos, neg_ℤ, ◌*ℤ◌, ◌-ℤ◌, int_le, int_lt, unsigned_abs}
use Rattle.std.specs.Int.{int_min, int_max, int_shr, trailing_zeros, leading_zeros, w32}
use Rattle.strided.specs.Interval.{Interval, full, one, least, greatest}
use Rattle.strided.specs.Operations.{spaced}
use Rattle.si_bits.specs.Concrete.{and_of, or_of, xor_of, product_of, shl_of, shr_of, sar_of, low_of, extension_of}

-- ---- the shapes of results

-- one member
abbrev pub is_single : Interval → Bool
is_single a = a.stride == 0

-- no member below 0
abbrev pub is_natural : Interval → Bool
is_natural a = int_le (pos 0) a.lo

-- from lo to hi where both are signed words, else all words
unfoldable pub bounded : ℕ → ℤ → ℤ → Interval
bounded stride lo hi = if int_le least lo && int_le hi greatest then spaced stride lo hi else full

-- all numbers from 0 to n
abbrev pub up_to : ℕ → Interval
up_to n = spaced 1 (pos 0) (pos n)

-- ---- products

-- the products of the ends and the number c
abbrev pub least_product : Interval → ℤ → ℤ
least_product a c = int_min (a.lo *ℤ c) (a.hi *ℤ c)

abbrev pub greatest_product : Interval → ℤ → ℤ
greatest_product a c = int_max (a.lo *ℤ c) (a.hi *ℤ c)

-- each member times the number c
unfoldable pub multiple : Interval → ℤ → Interval
multiple a c = bounded (a.stride * unsigned_abs c) (least_product a c) (greatest_product a c)

-- from the least to the greatest of the four products of ends
unfoldable pub span : Interval → Interval → Interval
span a b =
    bounded 1 (int_min (least_product a b.lo) (least_product a b.hi)) (int_max (greatest_product a b.lo) (greatest_product a b.hi))

unfoldable pub mul : Interval → Interval → Interval
mul a b =
    if is_single a && is_single b then one (product_of a.lo b.lo)
    else if is_single b then multiple a b.lo
    else if is_single a then multiple b a.lo
    else span a b

-- ---- shifts

unfoldable pub shl : Interval → ℕ → Interval
shl a n = if is_single a then one (shl_of n a.lo) else multiple a (pos (2 ^ n))

-- the stride of a shifted down by n bits: whole only where each member is a multiple of 2^n
abbrev pub shifted_stride : Interval → ℕ → ℕ
shifted_stride a n = if a.stride % 2 ^ n == 0 && unsigned_abs a.lo % 2 ^ n == 0 then a.stride / 2 ^ n else 1

-- the ends shifted down by n bits, rounded down
unfoldable pub shifted : Interval → ℕ → Interval
shifted a n = spaced (shifted_stride a n) (int_shr a.lo n) (int_shr a.hi n)

unfoldable pub shr : Interval → ℕ → Interval
shr a n =
    if is_single a then one (shr_of n a.lo)
    else if n == 0 then a
    else if is_natural a then shifted a n
    else up_to (2 ^ (32 - n) - 1)

unfoldable pub sar : Interval → ℕ → Interval
sar a n = if is_single a then one (sar_of n a.lo) else shifted a n

-- ---- masks

-- what no member passes under the mask m, a number that is not negative
abbrev pub ceiling : Interval → ℕ → ℤ
ceiling a m = if is_natural a then int_min (pos m) a.hi else pos m

-- each member under the mask m, a number that is not negative: multiples of the lowest bit of m, up to m
unfoldable pub masked : Interval → ℕ → Interval
masked a m =
    if m == 0 then one (pos 0)
    else spaced (2 ^ trailing_zeros w32 m) (pos 0) (ceiling a m)

-- each member under the mask -m: where m is a power of 2, lowered to a multiple of m
unfoldable pub aligned : Interval → ℕ → Interval
aligned a m =
    if 2 ^ trailing_zeros w32 m == m
    then spaced (if a.stride % m == 0 then a.stride else m) (and_of a.lo (neg_ℤ (pos m))) (and_of a.hi (neg_ℤ (pos m)))
    else full

-- each member under the mask c
unfoldable pub under_mask : Interval → ℤ → Interval
under_mask a c = if int_le (pos 0) c then masked a (unsigned_abs c) else aligned a (unsigned_abs c)

unfoldable pub and : Interval → Interval → Interval
and a b =
    if is_single a && is_single b then one (and_of a.lo b.lo)
    else if is_single b then under_mask a b.lo
    else if is_single a then under_mask b a.lo
    else if is_natural a && is_natural b then spaced 1 (pos 0) (int_min a.hi b.hi)
    else full

-- from 0 to the least 2^b - 1 that no member of either passes: b is how many binary digits the greater upper end has
unfoldable pub within_bits : Interval → Interval → Interval
within_bits a b =
    if is_natural a && is_natural b then up_to (2 ^ (32 - leading_zeros w32 (unsigned_abs (int_max a.hi b.hi))) - 1) else full

unfoldable pub or : Interval → Interval → Interval
or a b = if is_single a && is_single b then one (or_of a.lo b.lo) else within_bits a b

unfoldable pub xor : Interval → Interval → Interval
xor a b = if is_single a && is_single b then one (xor_of a.lo b.lo) else within_bits a b

-- ---- parts

-- the low w bits of each member
unfoldable pub low : ℕ → Interval → Interval
low w a =
    if is_single a then one (low_of w a.lo)
    else if is_natural a && int_lt a.hi (pos (2 ^ w)) then a
    else up_to (2 ^ w - 1)

-- each member as a signed number of w bits, where the members are numbers of w bits
unfoldable pub sign_extend : ℕ → Interval → Interval
sign_extend w a =
    if is_single a then one (extension_of w a.lo)
    else if int_lt a.hi (pos (2 ^ (w - 1))) then a
    else if int_le (pos (2 ^ (w - 1))) a.lo then spaced a.stride (a.lo -ℤ pos (2 ^ w)) (a.hi -ℤ pos (2 ^ w))
    else spaced 1 (neg_ℤ (pos (2 ^ (w - 1)))) (pos (2 ^ (w - 1) - 1))

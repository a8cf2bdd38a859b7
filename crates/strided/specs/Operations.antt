-- One formula over the integers for each operation on intervals. They are the project's own.
use Rattle.std.specs.Prelude.{ℕ, zero, suc, ◌+◌, ◌*◌, ◌/◌, ◌%◌, ◌==◌, ◌&&◌, if◌then◌else◌, Bool, ℤ, pos, ◌+ℤ◌, ◌-ℤ◌, int_le, unsigned_abs, Option, Some, None}
use Rattle.std.specs.Int.{int_gap, int_min, int_max, next_multiple_of}
use Rattle.strided.specs.Gcd.{gcd}
use Rattle.strided.specs.Interval.{Interval, interval, full, one, least, greatest}
use Rattle.strided.specs.Concrete.{signed}

-- ---- the two ends and a stride

-- lo and so many strides above it; a single member has stride 0
unfoldable pub stepped : ℕ → ℤ → ℕ → Interval
stepped stride lo zero = one lo
stepped stride lo (suc turns) = interval stride lo (lo +ℤ pos (suc turns * stride))

-- from lo up to hi, lowered to the last member
unfoldable pub spaced : ℕ → ℤ → ℤ → Interval
spaced stride lo hi = stepped stride lo (int_gap lo hi / stride)

-- the same where hi is a signed word, else all words
unfoldable pub fitted : ℕ → ℤ → ℤ → Interval
fitted stride lo hi = if int_le hi greatest then spaced stride lo hi else full

-- The interval of two ends that one multiple of 2^32 brings into the signed words, else all words: only one
-- multiple does so with lo, and hi stays as far above lo as it was.
unfoldable pub wrap : ℕ → ℤ → ℤ → Interval
wrap stride lo hi = fitted stride (signed lo) (signed lo +ℤ (hi -ℤ lo))

-- ---- sums

unfoldable pub add : Interval → Interval → Interval
add a b = wrap (gcd a.stride b.stride) (a.lo +ℤ b.lo) (a.hi +ℤ b.hi)

unfoldable pub sub : Interval → Interval → Interval
sub a b = wrap (gcd a.stride b.stride) (a.lo -ℤ b.hi) (a.hi -ℤ b.lo)

unfoldable pub neg : Interval → Interval
neg a = sub (one (pos 0)) a

-- ---- joins

-- the greatest stride at which the members of both lie
unfoldable pub joint_stride : Interval → Interval → ℕ
joint_stride a b = gcd (gcd a.stride b.stride) (unsigned_abs (a.lo -ℤ b.lo))

unfoldable pub join : Interval → Interval → Interval
join a b = spaced (joint_stride a b) (int_min a.lo b.lo) (int_max a.hi b.hi)

-- the least signed word that lies whole strides from z
unfoldable pub lowest : ℕ → ℤ → ℤ
lowest stride z = least +ℤ pos (int_gap least z % stride)

-- An end that the new interval b passes goes as far as the signed words do. The upper one is then lowered to
-- the greatest of them that lies whole strides from the old interval a.
unfoldable pub widened_lo : ℕ → Interval → Interval → ℤ
widened_lo stride a b = if int_le a.lo b.lo then a.lo else lowest stride a.lo

unfoldable pub widened_hi : Interval → Interval → ℤ
widened_hi a b = if int_le b.hi a.hi then a.hi else greatest

unfoldable pub widen : Interval → Interval → Interval
widen a b = spaced (joint_stride a b) (widened_lo (joint_stride a b) a b) (widened_hi a b)

-- ---- bounds and tests

-- from lo up to hi, if lo isn't above hi
unfoldable pub span : ℕ → ℤ → ℤ → Option Interval
span stride lo hi = if int_le lo hi then Some (spaced stride lo hi) else None

-- the first number not below lo that lies whole strides above a's lower end
unfoldable pub first_from : Interval → ℤ → ℤ
first_from a lo = a.lo +ℤ pos (next_multiple_of (int_gap a.lo lo) a.stride)

-- the members of a from lo up to hi
unfoldable pub clip : Interval → ℤ → ℤ → Option Interval
clip a lo hi = span a.stride (first_from a lo) (int_min a.hi hi)

-- whether v is a member; only 0 has the remainder 0 by the stride 0
unfoldable pub has : Interval → ℤ → Bool
has a v = int_le a.lo v && int_le v a.hi && (int_gap a.lo v % a.stride == 0)

-- the members of a within b's ends, or b itself where it is one number
unfoldable pub meet : Interval → Interval → Option Interval
meet a b = if b.stride == 0 then (if has a b.lo then Some b else None) else clip a b.lo b.hi

-- whether each member of a is a member of b
unfoldable pub below : Interval → Interval → Bool
below a b = has b a.lo && has b a.hi && (a.stride % b.stride == 0)

-- how many members a has
unfoldable pub count : Interval → ℕ
count a = int_gap a.lo a.hi / a.stride + 1

-- the member, where there is one alone
unfoldable pub only : Interval → Option ℤ
only a = if a.stride == 0 then Some a.lo else None

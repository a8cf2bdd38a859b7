-- What is left of an interval under a condition on its comparison with some member of a bound, one row a condition. The rows
-- are the project's own; the numbers of conditions are those of the SDM, volume 1, appendix B.

use Rattle.std.specs.Prelude.{ℕ, ◌+◌, ◌-◌, ◌%◌, ◌==◌, ◌&&◌, Bool, if◌then◌else◌, ℤ, pos, ◌+ℤ◌, ◌-ℤ◌, int_le, Option, Some, None}
use Rattle.std.specs.Ordering.{int_eq}
use Rattle.strided.specs.Interval.{Interval, least, greatest}
use Rattle.strided.specs.Operations.{clip}

-- -- Members on one side of a number

unfoldable pub less : Interval → ℤ → Option Interval
less x z = if int_eq z least then None else clip x least (z -ℤ pos 1)

unfoldable pub at_most : Interval → ℤ → Option Interval
at_most x z = clip x least z

unfoldable pub at_least : Interval → ℤ → Option Interval
at_least x z = clip x z greatest

unfoldable pub greater : Interval → ℤ → Option Interval
greater x z = if int_eq z greatest then None else clip x (z +ℤ pos 1) greatest

-- -- Members as numbers without a sign

abbrev pub is_natural : Interval → Bool
is_natural a = int_le (pos 0) a.lo

-- where no member of the bound has the sign, from 0 up to below its upper end, or up to it
unfoldable pub below : Interval → Interval → Option Interval
below x bound =
    if is_natural bound then (if int_eq bound.hi (pos 0) then None else clip x (pos 0) (bound.hi -ℤ pos 1)) else Some x

unfoldable pub not_above : Interval → Interval → Option Interval
not_above x bound = if is_natural bound then clip x (pos 0) bound.hi else Some x

-- where no member of both has the sign, from the bound's lower end on, or above it
unfoldable pub not_below : Interval → Interval → Option Interval
not_below x bound = if is_natural bound && is_natural x then at_least x bound.lo else Some x

unfoldable pub above : Interval → Interval → Option Interval
above x bound = if is_natural bound && is_natural x then greater x bound.lo else Some x

-- -- Members that aren't one number, and the sign of a difference from 0

-- without z, where it is an end
unfoldable pub without_end : Interval → ℤ → Option Interval
without_end x z = if int_eq z x.lo then greater x z else (if int_eq z x.hi then less x z else Some x)

-- without the bound, where it is one number
unfoldable pub not_equal : Interval → Interval → Option Interval
not_equal x bound = if int_eq bound.lo bound.hi then without_end x bound.lo else Some x

abbrev pub is_zero : Interval → Bool
is_zero a = int_eq a.lo (pos 0) && int_eq a.hi (pos 0)

unfoldable pub negative : Interval → Interval → Option Interval
negative x bound = if is_zero bound then less x (pos 0) else Some x

unfoldable pub not_negative : Interval → Interval → Option Interval
not_negative x bound = if is_zero bound then at_least x (pos 0) else Some x

-- -- The rows

-- by the number of a condition that holds: b, ae, e, ne, be, a, s, ns, l, ge, le and g; any other tells nothing of x
unfoldable pub row : ℕ → Interval → Interval → Option Interval
row condition x bound =
    (if condition == 2 then below x bound else
    (if condition == 3 then not_below x bound else
    (if condition == 4 then clip x bound.lo bound.hi else
    (if condition == 5 then not_equal x bound else
    (if condition == 6 then not_above x bound else
    (if condition == 7 then above x bound else
    (if condition == 8 then negative x bound else
    (if condition == 9 then not_negative x bound else
    (if condition == 12 then less x bound.hi else
    (if condition == 13 then at_least x bound.lo else
    (if condition == 14 then at_most x bound.hi else
    (if condition == 15 then greater x bound.lo else
    Some x))))))))))))

-- the condition that holds exactly where another doesn't
unfoldable pub opposite : ℕ → ℕ
opposite condition = if condition % 2 == 1 then condition - 1 else condition + 1

-- the condition that holds after a test of one
abbrev pub held : ℕ → Bool → ℕ
held condition taken = if taken then condition else opposite condition

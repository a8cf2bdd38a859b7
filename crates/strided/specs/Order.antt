-- Intervals in the order of their strides, then of their lower ends, then of their upper ones. The order is the project's own.
use Rattle.std.specs.Prelude.{◌≡◌}
use Rattle.std.specs.Cmp.{IsTotalOrder}
use Rattle.std.specs.Ordering.{nat_cmp, int_cmp, on, then_cmp}
use Rattle.std.specs.declared.cmp.Ordering.{Ordering}
use Rattle.std.specs.declared.cmp.Ordering.TheVariants.{Equal}
use Rattle.strided.specs.Interval.{Interval}

abbrev pub interval_cmp : Interval → Interval → Ordering
interval_cmp = then_cmp (on (λ (a : Interval). a.stride) nat_cmp) (then_cmp (on (λ (a : Interval). a.lo) int_cmp) (on (λ (a : Interval). a.hi) int_cmp))

-- turned round where the two change places, and transitive
abbrev pub IntervalsAreOrdered : Type 0
IntervalsAreOrdered = IsTotalOrder interval_cmp

-- equal in the order only where they are one interval
abbrev pub EqualIntervalsAreOne : Type 0
EqualIntervalsAreOne = (a b : Interval) → interval_cmp a b ≡ Equal → a ≡ b

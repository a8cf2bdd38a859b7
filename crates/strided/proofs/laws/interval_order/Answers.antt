-- An order of numbers, and then another.
use Rattle.std.proofs.lemmas.Cmp.{nat_cmp_total, int_cmp_total, on_total, then_total}
use Rattle.strided.specs.Interval.{Interval}
use Rattle.strided.proofs.laws.interval_order.Goals as goal

pub returns-clause-ordered : goal.returns-clause-ordered
returns-clause-ordered c =
    then_total (on_total (λ (a : Interval). a.stride) nat_cmp_total)
    (then_total (on_total (λ (a : Interval). a.lo) int_cmp_total) (on_total (λ (a : Interval). a.hi) int_cmp_total))

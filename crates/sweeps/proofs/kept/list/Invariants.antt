use Rattle.std.proofs.Common.{◌≡◌, map}
use Rattle.sweeps.specs.Kept.{unaimed}
use Rattle.sweeps.proofs.kept.list.Given as goal

abbrev pub invariant-loop-pair : goal.invariant-loop-pair
invariant-loop-pair g l = l.arrivals.items ≡ map unaimed l.yielded

use Rattle.std.proofs.Common.{◌≡◌, ℕ, map, take}
use Rattle.sweeps.specs.Toy.{toy_next}
use Rattle.sweeps.proofs.tests.returned.Given as goal

abbrev pub invariant-loop-other : goal.invariant-loop-other
invariant-loop-other l = l.next.items ≡ toy_next 10 0 (map {B = ℕ × ℕ} (λ o. (o.0.now, o.1.now)) (take l.other-index l.others))

use Rattle.std.proofs.Common.{◌≡◌, take, false}
use Rattle.std.specs.List.{list_any}
use Rattle.sweeps.proofs.growing.is_concerned.Given as goal

abbrev pub invariant-loop-other : goal.invariant-loop-other
invariant-loop-other g l = list_any (λ q. (g.D.Domain.meaning l.domain).concerns l.place q) (take l.other-index l.places) ≡ false

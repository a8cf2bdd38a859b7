use Rattle.std.proofs.Common.{◌≡◌, take}
use Rattle.sweeps.specs.Kept.{moved}
use Rattle.sweeps.proofs.growing.moved_places.Given as goal

abbrev pub invariant-loop-k : goal.invariant-loop-k
invariant-loop-k g l = l.places.items ≡ moved (take l.k-index l.kept)

use Rattle.std.proofs.Common.{◌≡◌, take}
use Rattle.std.specs.List.{fold}
use Rattle.sweeps.specs.Kept.{touch_at, touched}
use Rattle.sweeps.proofs.growing.touch_all.Given as goal

abbrev pub invariant-loop-k : goal.invariant-loop-k
invariant-loop-k g l = l.slots ≡ fold (touch_at (g.D.Domain.meaning l.domain) l.kept) l.fn.slots (touched (take l.k-index l.kept))

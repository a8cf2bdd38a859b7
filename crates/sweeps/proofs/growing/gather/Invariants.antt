use Rattle.std.proofs.Common.{◌≡◌, take}
use Rattle.std.specs.List.{fold}
use Rattle.sweeps.specs.Kept.{add_at, all_arrivals}
use Rattle.sweeps.proofs.growing.gather.Given as goal

abbrev pub invariant-loop-k : goal.invariant-loop-k
invariant-loop-k g l = l.slots ≡ fold (add_at (g.D.Domain.meaning l.domain) l.counts l.kept) l.fn.slots (all_arrivals (take l.k-index l.kept))

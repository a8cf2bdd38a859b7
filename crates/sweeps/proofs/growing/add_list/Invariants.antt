use Rattle.std.proofs.Common.{◌≡◌, take}
use Rattle.std.specs.List.{fold}
use Rattle.sweeps.specs.Kept.{add_at}
use Rattle.sweeps.proofs.growing.add_list.Given as goal

abbrev pub invariant-loop-arrival : goal.invariant-loop-arrival
invariant-loop-arrival g l = l.slots ≡ fold (add_at (g.D.Domain.meaning l.domain) l.counts l.kept) l.fn.slots (take l.arrival-index l.arrivals)

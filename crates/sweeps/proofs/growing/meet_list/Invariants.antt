use Rattle.std.proofs.Common.{◌≡◌, take}
use Rattle.std.specs.List.{fold}
use Rattle.sweeps.specs.Sweeps.{with_arrival}
use Rattle.sweeps.specs.Kept.{strangers}
use Rattle.sweeps.proofs.growing.meet_list.Given as goal

abbrev pub invariant-loop-arrival : goal.invariant-loop-arrival
invariant-loop-arrival g l = l.rows.items ≡ fold (with_arrival (g.D.Domain.meaning l.domain)) l.fn.rows.items (strangers (take l.arrival-index l.arrivals))

use Rattle.std.proofs.Common.{◌≡◌, take, map, false}
use Rattle.sweeps.specs.Sweeps.{is_widening}
use Rattle.sweeps.specs.Kept.{pair_of}
use Rattle.sweeps.proofs.growing.is_widening.Given as goal

abbrev pub invariant-loop-arrival : goal.invariant-loop-arrival
invariant-loop-arrival g l = is_widening (g.D.Domain.meaning l.domain) l.place (map pair_of (take l.arrival-index l.arrivals)) ≡ false

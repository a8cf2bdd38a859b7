use Rattle.std.proofs.Common.{◌≡◌, take, true}
use Rattle.std.specs.List.{list_all}
use Rattle.sweeps.specs.Sweeps.{has_above}
use Rattle.sweeps.specs.Kept.{table_of}
use Rattle.sweeps.proofs.closed.are_above.Given as goal

abbrev pub invariant-loop-place : goal.invariant-loop-place
invariant-loop-place g l = list_all (has_above (g.D.Domain.meaning l.domain) (table_of l.table)) (take l.place-index l.arrivals) ≡ true

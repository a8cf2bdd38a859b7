use Rattle.std.proofs.Common.{◌≡◌, [], take}
use Rattle.std.specs.List.{fold}
use Rattle.sweeps.specs.Sweeps.{with_arrival}
use Rattle.sweeps.specs.Kept.{strangers, all_arrivals}
use Rattle.sweeps.proofs.growing.new_rows.Given as goal

abbrev pub invariant-loop-k : goal.invariant-loop-k
invariant-loop-k g l = l.rows.items ≡ fold (with_arrival (g.D.Domain.meaning l.domain)) [] (strangers (all_arrivals (take l.k-index l.kept)))

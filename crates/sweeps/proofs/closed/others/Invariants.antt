use Rattle.std.proofs.Common.{◌≡◌, take}
use Rattle.sweeps.specs.Sweeps.{others_of}
use Rattle.sweeps.specs.Kept.{table_of}
use Rattle.sweeps.proofs.closed.others.Given as goal

abbrev pub invariant-loop-entry : goal.invariant-loop-entry
invariant-loop-entry g l = table_of l.others.items ≡ others_of (g.D.Domain.meaning l.domain) (table_of (take l.entry-index l.table)) l.place

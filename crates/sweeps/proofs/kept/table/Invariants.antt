use Rattle.std.proofs.Common.{◌≡◌, take}
use Rattle.sweeps.specs.Kept.{table_of, kept_table}
use Rattle.sweeps.proofs.kept.table.Given as goal

abbrev pub invariant-loop-k : goal.invariant-loop-k
invariant-loop-k g l = table_of l.entries.items ≡ kept_table (take l.k-index l.kept)

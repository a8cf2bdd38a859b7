use Rattle.std.proofs.Common.{◌≡◌}
use Rattle.sweeps.specs.Kept.{rows_of}
use Rattle.sweeps.proofs.whole.rows_only.Given as goal

abbrev pub invariant-loop-k : goal.invariant-loop-k
invariant-loop-k g l = l.rows.items ≡ rows_of l.yielded

use Rattle.std.proofs.Common.{◌≡◌, ◌++◌, drop}
use Rattle.sweeps.specs.Kept.{zip_with}
use Rattle.vsa.specs.Topped.{topped_value}
use Rattle.vsa.proofs.topped.topped_values.Given as goal

abbrev pub invariant-loop-i : goal.invariant-loop-i
invariant-loop-i l = l.out.items ++ zip_with topped_value (drop l.i l.old) (drop l.i l.new) ≡ zip_with topped_value l.old l.new

use Rattle.std.proofs.Common.{◌≡◌, ◌-◌, ◌<◌, drop}
use Rattle.ia32_print.specs.Text.{without_zeros}
use Rattle.ia32_print.proofs.print.significant.Given as goal

abbrev pub invariant-loop-start : goal.invariant-loop-start
invariant-loop-start l = record {
  below : l.start < 8;
  digits : without_zeros l.digits ≡ without_zeros (drop l.start l.digits);
}

abbrev pub decreases-loop-start : goal.decreases-loop-start
decreases-loop-start l = 8 - l.start

use Rattle.std.proofs.Common.{◌≡◌, ◌-◌}
use Rattle.ia32_machine.specs.Machines.{state_of, RunsImage}
use Rattle.ia32_run.proofs.TraceLemmas.{Kept}
use Rattle.ia32_run.proofs.runs.trace.Given as goal

abbrev pub invariant-run : goal.invariant-run
invariant-run l = record {
  kept : Kept l.fn.image l.fn.settings l.fn.words l.fn.steps l.count l.used (state_of l.machine) l.writers l.told;
  runs : RunsImage l.fn.image l.machine;
  slot : l.machine.slot ≡ 0xBFF0000C;
}

abbrev pub decreases-run : goal.decreases-run
decreases-run l = l.fn.steps - l.count

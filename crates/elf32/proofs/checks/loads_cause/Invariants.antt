use Rattle.std.proofs.Common.{◌≡◌, ◌≤◌, [], take, drop}
use Rattle.elf32.specs.Checks.{loads_cause, memory_of}
use Rattle.elf32.proofs.checks.loads_cause.Given as goal

abbrev pub invariant-loop-i : goal.invariant-loop-i
invariant-loop-i l =
    (loads_cause l.len l.bias (take l.i l.loads) (drop l.i l.loads) ≡ loads_cause l.len l.bias [] l.loads)
    × (l.total ≡ memory_of (take l.i l.loads)) × (l.total ≤ 67108864)

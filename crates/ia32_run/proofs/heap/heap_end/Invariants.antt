use Rattle.std.proofs.Common.{◌≡◌, ◌<◌, ◌≤◌, ◌^◌, length}
use Rattle.std.specs.Prelude.{max}
use Rattle.ia32_run.specs.Choices.{heap_end}
use Rattle.ia32_run.proofs.heap.heap_end.Given as goal

abbrev pub invariant-each : goal.invariant-each
invariant-each l = record {
  value : max l.end (heap_end l.rest) ≡ heap_end l.fn.blocks;
  low : 0x90000000 ≤ l.end;
  below : l.end < 2 ^ 33;
}

abbrev pub decreases-each : goal.decreases-each
decreases-each l = length l.rest

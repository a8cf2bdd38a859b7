use Rattle.std.proofs.Common.{◌≡◌, ◌++◌, take, drop}
use Rattle.std.specs.Prelude.{replicate}
use Rattle.elf32.proofs.load.segment_bytes.Given as goal

abbrev pub invariant-loop : goal.invariant-loop
invariant-loop l = l.memory.items ≡ take l.h.p_filesz (drop l.h.p_offset l.bytes) ++ replicate l.counter 0

use Rattle.std.proofs.Common.{◌≡◌, ◌-◌}
use Rattle.ia32_memory.specs.Changes.{zeroed}
use Rattle.ia32_memory.proofs.memory.zero_part.Given as goal

abbrev pub invariant-loop-at : goal.invariant-loop-at
invariant-loop-at l = l.bytes ≡ zeroed l.from (l.at - l.from) l.initial.bytes

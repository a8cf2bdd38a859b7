use Rattle.std.proofs.Common.{◌≡◌, ◌+◌, ◌-◌}
use Rattle.ia32_semantics.specs.Effects.{all_among}
use Rattle.ia32_memory.specs.Mapped.{is_open_at}
use Rattle.ia32_memory.proofs.memory.Memory.is_open.Given as goal

abbrev pub invariant-loop-distance : goal.invariant-loop-distance
invariant-loop-distance l = all_among (is_open_at l.self) l.address l.count ≡ all_among (is_open_at l.self) (l.address + l.distance) (l.count - l.distance)

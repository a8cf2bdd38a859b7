use Rattle.std.proofs.Common.{◌≡◌, ◌+◌, ◌-◌}
use Rattle.ia32_semantics.specs.Effects.{all_among, is_mapped}
use Rattle.ia32_memory.specs.Mapped.{bytes_of}
use Rattle.ia32_memory.proofs.memory.Memory.is_mapped.Given as goal

abbrev pub invariant-loop-distance : goal.invariant-loop-distance
invariant-loop-distance l = all_among (is_mapped (bytes_of l.self)) l.address l.count ≡ all_among (is_mapped (bytes_of l.self)) (l.address + l.distance) (l.count - l.distance)

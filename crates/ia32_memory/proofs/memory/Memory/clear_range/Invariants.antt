use Rattle.std.proofs.Common.{◌≡◌}
use Rattle.image_map.specs.Shapes.{shapes}
use Rattle.item_list.specs.Ranges.{within}
use Rattle.ia32_memory.specs.Mapped.{bytes_of}
use Rattle.ia32_memory.specs.Changes.{cleared}
use Rattle.ia32_memory.proofs.memory.Memory.clear_range.Given as goal

abbrev pub invariant-loop-address : goal.invariant-loop-address
invariant-loop-address l = record {
  bytes : bytes_of l.self ≡ cleared (λ a. within l.start l.address a) (bytes_of l.initial.self);
  shapes : shapes l.self ≡ shapes l.initial.self;
}

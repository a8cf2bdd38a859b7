use Rattle.std.proofs.Common.{◌≡◌, ◌-◌}
use Rattle.ia32_types.specs.Numbers.{size}
use Rattle.image_map.specs.Shapes.{shapes}
use Rattle.ia32_memory.specs.Mapped.{bytes_of}
use Rattle.ia32_memory.specs.Changes.{filled_over}
use Rattle.ia32_memory.proofs.memory.Memory.fill.Given as goal

abbrev pub invariant-loop : goal.invariant-loop
invariant-loop l = record {
  bytes : filled_over l.elements.down (size l.elements.width) l.value (l.end - l.counter) l.at (bytes_of l.self) ≡ filled_over l.elements.down (size l.elements.width) l.value l.elements.count l.to (bytes_of l.initial.self);
  shapes : shapes l.self ≡ shapes l.initial.self;
}

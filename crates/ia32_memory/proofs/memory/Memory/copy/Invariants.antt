use Rattle.std.proofs.Common.{◌≡◌, ◌-◌}
use Rattle.ia32_types.specs.Numbers.{size}
use Rattle.image_map.specs.Shapes.{shapes}
use Rattle.ia32_memory.specs.Mapped.{bytes_of}
use Rattle.ia32_memory.specs.Changes.{copied_over}
use Rattle.ia32_memory.proofs.memory.Memory.copy.Given as goal

abbrev pub invariant-loop : goal.invariant-loop
invariant-loop l = record {
  bytes : copied_over l.elements.down (size l.elements.width) (l.end - l.counter) l.source l.target (bytes_of l.self) ≡ copied_over l.elements.down (size l.elements.width) l.elements.count l.from l.to (bytes_of l.initial.self);
  shapes : shapes l.self ≡ shapes l.initial.self;
}

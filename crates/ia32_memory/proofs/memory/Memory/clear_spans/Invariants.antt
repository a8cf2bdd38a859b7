use Rattle.std.proofs.Common.{◌≡◌, take}
use Rattle.image_map.specs.Ranges.{is_any}
use Rattle.image_map.specs.Shapes.{shapes}
use Rattle.ia32_memory.specs.Mapped.{bytes_of}
use Rattle.ia32_memory.specs.Changes.{cleared}
use Rattle.ia32_memory.proofs.memory.Memory.clear_spans.Given as goal

abbrev pub invariant-loop-span : goal.invariant-loop-span
invariant-loop-span l = record {
  bytes : bytes_of l.self ≡ cleared (λ a. is_any (take l.span-index l.spans) a) (bytes_of l.initial.self);
  shapes : shapes l.self ≡ shapes l.initial.self;
}

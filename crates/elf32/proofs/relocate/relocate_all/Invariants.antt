use Rattle.std.proofs.Common.{◌≡◌, map, drop}
use Rattle.std.specs.List.{flat_map}
use Rattle.image_map.specs.Shapes.{shapes}
use Rattle.elf32.specs.Shapes.{load_shape}
use Rattle.elf32.specs.Relocating.{relocated, relocations_of}
use Rattle.elf32.specs.Programs.{shown}
use Rattle.elf32.proofs.relocate.relocate_all.Given as goal

abbrev pub invariant-loop-section : goal.invariant-loop-section
invariant-loop-section l =
    (shapes l.program.memory.segments.items ≡ map (load_shape l.bias) l.loads)
    × (relocated l.bias l.loads 0 (shown l.initial.program) (flat_map (relocations_of l.bytes l.sections) l.sections)
    ≡ relocated l.bias l.loads l.index (shown l.program) (flat_map (relocations_of l.bytes l.sections) (drop l.section-index l.sections)))

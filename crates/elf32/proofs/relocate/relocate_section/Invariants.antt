use Rattle.std.proofs.Common.{◌≡◌, map}
use Rattle.image_map.specs.Shapes.{shapes}
use Rattle.elf32.specs.Shapes.{load_shape}
use Rattle.elf32.specs.Relocating.{relocation}
use Rattle.elf32.specs.Programs.{shown}
use Rattle.elf32.proofs.Folding.{Remains}
use Rattle.elf32.proofs.relocate.relocate_section.Given as goal

abbrev pub invariant-loop-at : goal.invariant-loop-at
invariant-loop-at l =
    (shapes l.program.memory.segments.items ≡ map (load_shape l.bias) l.loads)
    × Remains l.bias l.loads (relocation l.bytes l.section l.table) l.count l.initial.index (shown l.initial.program) l.at l.index (shown l.program)

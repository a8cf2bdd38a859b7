use Rattle.std.proofs.Common.{drop}
use Rattle.image_map.specs.Names.{symbols_at}
use Rattle.elf32.specs.Checks.{has_type}
use Rattle.elf32.specs.Names.{symbols_of}
use Rattle.elf32.specs.Found.{IsFound}
use Rattle.elf32.proofs.Values.{SectionsRemain}
use Rattle.elf32.proofs.symbols.add_tables.Given as goal

abbrev pub invariant-loop-section : goal.invariant-loop-section
invariant-loop-section l =
    IsFound l.strings.buffer.items l.found.seen.items (symbols_at l.strings.buffer.items l.found.places.items)
    × SectionsRemain (symbols_of l.bytes l.bias l.sections) (has_type l.sh_type) l.sections (symbols_at l.strings.buffer.items l.initial.found.places.items) (drop l.section-index l.sections) (symbols_at l.strings.buffer.items l.found.places.items)

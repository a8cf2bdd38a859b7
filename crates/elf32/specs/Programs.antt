-- What the state of a load shows: its memory as a function of addresses, its externs and its words.
use Rattle.elf32.specs.declared.relocate.Program.{Program}
use Rattle.image_map.specs.Memory.{byte_of}
use Rattle.elf32.specs.Relocating.{Relocated}

abbrev pub shown : Program → Relocated
shown p = record { memory = byte_of p.memory.segments.items p.memory.any_bytes; externs = p.externs.items; words = p.words.items }

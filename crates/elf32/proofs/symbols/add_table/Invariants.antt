use Rattle.image_map.specs.Names.{symbols_at}
use Rattle.elf32.specs.Fields.{symbol_entry}
use Rattle.elf32.specs.Found.{IsFound}
use Rattle.elf32.specs.Strings.{placed}
use Rattle.elf32.proofs.Values.{RowsRemain}
use Rattle.elf32.proofs.symbols.add_table.Given as goal

abbrev pub invariant-loop-index : goal.invariant-loop-index
invariant-loop-index l =
    IsFound l.buffer l.found.seen.items (symbols_at l.buffer l.found.places.items)
    × RowsRemain (placed l.buffer l.bias l.strings) (symbol_entry l.bytes l.table.sh_offset) l.count (symbols_at l.buffer l.initial.found.places.items) l.index (symbols_at l.buffer l.found.places.items)

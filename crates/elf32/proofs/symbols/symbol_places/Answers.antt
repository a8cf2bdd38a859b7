use Rattle.std.proofs.Common.{ap}
use Rattle.image_map.specs.Names.{symbols_at}
use Rattle.elf32.proofs.Values.{both_types}
use Rattle.elf32.proofs.symbols.symbol_places.Goals as goal

pub returns : goal.returns
returns c =
    let buffer = c.args.strings.now.buffer.items in
    both_types (symbols_at buffer c.new.result.items) (symbols_at buffer c.add_tables.new.found.places.items) (symbols_at buffer c.add_tables-2.new.found.places.items) _ _ (ap (symbols_at buffer) c.new.ensures.items) c.in_ok-add_tables.ensures.adds c.in_ok-add_tables-2.ensures.adds

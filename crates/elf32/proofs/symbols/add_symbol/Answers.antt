use Rattle.std.proofs.Common.{sym, ◌∙◌}
use Rattle.image_map.specs.Names.{symbols_at}
use Rattle.elf32.proofs.Values.{seen_adds}
use Rattle.elf32.proofs.symbols.add_symbol.Goals as goal

pub returns-then-has_seen-clause-adds : goal.returns-then-has_seen-clause-adds
returns-then-has_seen-clause-adds c =
    seen_adds c.args.buffer.now c.args.bias c.args.strings.now c.args.entry.now c.args.found.now.seen.items (symbols_at c.args.buffer.now c.args.found.now.places.items) c.requires.found (sym c.has_seen.ensures ∙ c.if-has_seen.true)

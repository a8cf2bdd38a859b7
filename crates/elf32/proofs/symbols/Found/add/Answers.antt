use Rattle.std.proofs.Common.{List, Bool, false, get_or, ap, sym, ◌∙◌}
use Rattle.image_map.specs.Names.{symbol_at, symbols_at}
use Rattle.elf32.proofs.Values.{known_name, found_more}
use Rattle.elf32.proofs.symbols.Found.add.Goals as goal

pub returns-then-seen-start-clause-adds : goal.returns-then-seen-start-clause-adds
returns-then-seen-start-clause-adds c = λ rest n.
    let buffer = c.args.buffer.now in
    let place = c.args.place.now in
    let known = c.requires.found.each place.start (ap (λ (v : List Bool). get_or v place.start false) (sym c.as_slice-seen.ensures.value) ∙ c.if-seen-start.true) in
    sym (known_name (symbols_at buffer c.args.self.now.places.items) rest (symbol_at buffer place) known n)

pub returns-clause-found : goal.returns-clause-found
returns-clause-found c = found_more c.args.buffer.now c.args.self.now.seen.items c.args.self.now.places.items _ c.args.place.now c.requires.within c.in_ok-push.ensures.items c.requires.found

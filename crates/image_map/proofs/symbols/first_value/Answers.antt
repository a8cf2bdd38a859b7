use Rattle.std.proofs.Common.{ap, ◌∙◌}
use Rattle.std.specs.Option.{option_map}
use Rattle.image_map.specs.declared.symbols.SymbolPlace.{SymbolPlace}
use Rattle.image_map.proofs.TextLemmas.{value_at}
use Rattle.image_map.proofs.symbols.first_value.Goals as goal

pub returns-in-Some : goal.returns-in-Some
returns-in-Some c = ap (option_map (λ (p : SymbolPlace). p.value)) c.in-Some.ensures ∙ value_at c.args.buffer.now c.args.places.now c.args.name.now

pub returns-in-None : goal.returns-in-None
returns-in-None c = ap (option_map (λ (p : SymbolPlace). p.value)) c.in-None.ensures ∙ value_at c.args.buffer.now c.args.places.now c.args.name.now

use Rattle.std.proofs.Common.{◌≡◌, ◌++◌, ◌∷◌, length}
use Rattle.std.specs.List.{flat_map}
use Rattle.surf_base.specs.Hex.{hex8_text}
use Rattle.round_texts.proofs.lines.push_asked.Given as goal

abbrev pub invariant-asked_left : goal.invariant-asked_left
invariant-asked_left l = l.text.items ++ flat_map (λ at. 32 ∷ hex8_text at) l.rest ≡ l.fn.text.items ++ flat_map (λ at. 32 ∷ hex8_text at) l.fn.asked

abbrev pub decreases-asked_left : goal.decreases-asked_left
decreases-asked_left l = length l.rest

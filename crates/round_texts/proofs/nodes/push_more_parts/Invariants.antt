use Rattle.std.proofs.Common.{◌≡◌, ◌++◌, ◌∷◌, length}
use Rattle.std.specs.List.{flat_map}
use Rattle.round_texts.specs.Values.{part_text}
use Rattle.round_texts.proofs.nodes.push_more_parts.Given as goal

abbrev pub invariant-parts_left : goal.invariant-parts_left
invariant-parts_left l = l.text.items ++ flat_map (λ p. 32 ∷ part_text p) l.rest ≡ l.fn.text.items ++ flat_map (λ p. 32 ∷ part_text p) l.fn.parts

abbrev pub decreases-parts_left : goal.decreases-parts_left
decreases-parts_left l = length l.rest

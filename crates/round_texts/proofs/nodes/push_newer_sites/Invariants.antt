use Rattle.std.proofs.Common.{◌≡◌, ◌++◌, ◌∷◌, length, reverse}
use Rattle.std.specs.List.{flat_map}
use Rattle.surf_base.specs.Hex.{hex8_text}
use Rattle.round_texts.proofs.nodes.push_newer_sites.Given as goal

abbrev pub invariant-sites_left : goal.invariant-sites_left
invariant-sites_left l = l.text.items ++ flat_map (λ site. 44 ∷ hex8_text site) (reverse l.rest) ≡ l.fn.text.items ++ flat_map (λ site. 44 ∷ hex8_text site) (reverse l.fn.sites)

abbrev pub decreases-sites_left : goal.decreases-sites_left
decreases-sites_left l = length l.rest

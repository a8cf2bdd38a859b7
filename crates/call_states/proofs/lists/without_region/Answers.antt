use Rattle.std.proofs.Common.{not, ◌∙◌, ap, rules}
use Rattle.std.specs.Prelude.{filter}
use Rattle.std.proofs.lemmas.Fn.{filter_same}
use Rattle.image_map.specs.Regions.{same_region}
use Rattle.abs_semantics.specs.declared.parts.Known.{Known}
use Rattle.call_states.proofs.lists.without_region.Goals as goal

pub returns : goal.returns
returns c =
    filter_same _ (λ (k : Known). not (same_region k.region c.args.region)) _ (λ x b q h. search rules) _ _ c.retain.ensures.filtered
    ∙ ap (filter (λ (k : Known). not (same_region k.region c.args.region))) c.in_ok-out.ensures.items

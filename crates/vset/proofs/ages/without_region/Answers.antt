use Rattle.std.proofs.Common.{not, ◌∙◌, ap, rules}
use Rattle.std.proofs.lemmas.Fn.{filter_same}
use Rattle.image_map.specs.Regions.{same_region}
use Rattle.vset.specs.declared.part.Part.{Part}
use Rattle.vset.specs.Operations.{without_region}
use Rattle.vset.proofs.ages.without_region.Goals as goal

pub returns : goal.returns
returns c =
    filter_same _ (λ (p : Part). not (same_region p.region c.args.region.now)) _ (λ x b q h. search rules) _ _ c.retain.ensures.filtered
    ∙ ap (λ t. without_region c.args.region.now t) c.in_ok-out.ensures.items

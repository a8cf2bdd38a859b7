use Rattle.std.proofs.Common.{sym, ◌∙◌, ap}
use Rattle.image_map.proofs.OrderLaws.{same_region-equal}
use Rattle.cell_map.specs.Merges.{side_of}
use Rattle.cell_map.proofs.regions.Rule.turned.Goals as goal

pub returns-then-eq-clause-region : goal.returns-then-eq-clause-region
returns-then-eq-clause-region c = same_region-equal c.args.last.region c.args.region.now (sym c.eq.ensures ∙ c.if-eq.true)

pub returns-then-eq-clause-side : goal.returns-then-eq-clause-side
returns-then-eq-clause-side c =
    let rule = c.args.self.now in
    c.requires ∙ ap (side_of rule.both rule.first rule.second) (same_region-equal c.args.last.region c.args.region.now (sym c.eq.ensures ∙ c.if-eq.true))

use Rattle.std.proofs.Common.{sym, ◌∙◌, ap}
use Rattle.image_map.specs.Regions.{region_before}
use Rattle.vset.specs.declared.part.Part.{Part}
use Rattle.vset.specs.Operations.{part}
use Rattle.vset.proofs.PartLemmas.{passed_more, from_here, from_none}
use Rattle.vset.proofs.part.place.Goals as goal

pub loop-i-preserved : goal.loop-i-preserved
loop-i-preserved c = λ both si.
    passed_more both (part c.args.region.now si) c.args.ps.now c.loop-i.i c.index-ps-i.result c.loop-i-test.true
    (ap (λ (x : Part). region_before x.region c.args.region.now) (sym c.index-ps-i.is) ∙ sym c.is_before.ensures ∙ c.if-not-is_before.false)
    (c.loop-i.invariant both si)

pub returns-clause-from : goal.returns-clause-from
returns-clause-from c = from_none c.args.region.now c.args.ps.now

pub returns-then-not-is_before-clause-from : goal.returns-then-not-is_before-clause-from
returns-then-not-is_before-clause-from c =
    from_here c.args.region.now c.args.ps.now c.loop-i.i c.index-ps-i.result c.loop-i-test.true
    (ap (λ (x : Part). region_before x.region c.args.region.now) (sym c.index-ps-i.is) ∙ sym c.is_before.ensures ∙ c.if-not-is_before.true)

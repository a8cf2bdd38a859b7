use Rattle.alocs.specs.declared.cells.CutList.{CutList}
use Rattle.asi_cuts.specs.Adding.{IsAt, IsIn, IsOfAny}
use Rattle.asi_cuts.proofs.ItemLemmas.{items_more, items_stop}
use Rattle.asi_cuts.proofs.spread.add_kept.Goals as goal

pub returns-in-Err : goal.returns-in-Err
returns-in-Err c =
    items_stop (λ (l : CutList). IsOfAny (λ offset. IsIn c.args.segments.now (IsAt l.region offset)) l.cuts) c.args.kept.now c.loop-list.list-index c.list-item.result c.args.set.now c.loop-list.set c.add_list.new.set c.in-Err.halt c.loop-list-test.true c.list-item.is c.loop-list.invariant c.in-Err.ensures

pub loop-list-preserved : goal.loop-list-preserved
loop-list-preserved c =
    items_more (λ (l : CutList). IsOfAny (λ offset. IsIn c.args.segments.now (IsAt l.region offset)) l.cuts) c.args.kept.now c.loop-list.list-index c.list-item.result c.args.set.now c.loop-list.set c.add_list.new.set c.loop-list-test.true c.list-item.is c.loop-list.invariant c.in-Ok.ensures

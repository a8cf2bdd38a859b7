use Rattle.std.proofs.lemmas.List.{get_or_default}
use Rattle.asi_cuts.specs.Adding.{IsIn, IsMadeBy}
use Rattle.asi_cuts.proofs.ItemLemmas.{items_end, items_more, items_stop}
use Rattle.asi_cuts.proofs.spread.add_all_made.Goals as goal

pub returns-in-Err : goal.returns-in-Err
returns-in-Err c =
    items_stop (λ f. IsIn c.args.segments.now (IsMadeBy f)) c.args.facts.now c.loop-fact.fact-index _ c.args.set.now c.loop-fact.set c.add_made.new.set c.in-Err.halt c.loop-fact-test.true (get_or_default c.args.facts.now c.loop-fact.fact-index _ _ c.loop-fact-test.true) c.loop-fact.invariant c.in-Err.ensures

pub loop-fact-preserved : goal.loop-fact-preserved
loop-fact-preserved c =
    items_more (λ f. IsIn c.args.segments.now (IsMadeBy f)) c.args.facts.now c.loop-fact.fact-index _ c.args.set.now c.loop-fact.set c.add_made.new.set c.loop-fact-test.true (get_or_default c.args.facts.now c.loop-fact.fact-index _ _ c.loop-fact-test.true) c.loop-fact.invariant c.in-Ok.ensures

pub returns : goal.returns
returns c = items_end (λ f. IsIn c.args.segments.now (IsMadeBy f)) c.args.facts.now c.loop-fact.fact-index c.args.set.now c.loop-fact.set c.loop-fact-test.false c.loop-fact.invariant

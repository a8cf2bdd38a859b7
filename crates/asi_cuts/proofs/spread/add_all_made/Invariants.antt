use Rattle.std.proofs.Common.{take}
use Rattle.asi_cuts.specs.Adding.{IsIn, IsMadeBy, IsOfAny}
use Rattle.asi_cuts.proofs.AddLemmas.{Reached}
use Rattle.asi_cuts.proofs.spread.add_all_made.Given as goal

abbrev pub invariant-loop-fact : goal.invariant-loop-fact
invariant-loop-fact l = Reached (IsOfAny (λ f. IsIn l.segments (IsMadeBy f)) l.facts) (IsOfAny (λ f. IsIn l.segments (IsMadeBy f)) (take l.fact-index l.facts)) l.fn.set l.set

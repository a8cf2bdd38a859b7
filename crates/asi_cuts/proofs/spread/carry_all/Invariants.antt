use Rattle.std.proofs.Common.{take}
use Rattle.asi_cuts.specs.Adding.{IsCarriedBy, IsIn, IsOfAny}
use Rattle.asi_cuts.proofs.AddLemmas.{Reached}
use Rattle.asi_cuts.proofs.spread.carry_all.Given as goal

abbrev pub invariant-loop-fact : goal.invariant-loop-fact
invariant-loop-fact l = Reached (IsOfAny (λ f. IsIn l.segments (IsCarriedBy l.cut f)) l.facts) (IsOfAny (λ f. IsIn l.segments (IsCarriedBy l.cut f)) (take l.fact-index l.facts)) l.fn.set l.set

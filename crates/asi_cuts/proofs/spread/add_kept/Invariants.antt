use Rattle.std.proofs.Common.{take}
use Rattle.asi_cuts.specs.Adding.{IsAt, IsIn, IsOfAny}
use Rattle.asi_cuts.proofs.AddLemmas.{Reached}
use Rattle.asi_cuts.proofs.spread.add_kept.Given as goal

abbrev pub invariant-loop-list : goal.invariant-loop-list
invariant-loop-list l = Reached (IsOfAny (λ list. IsOfAny (λ offset. IsIn l.segments (IsAt list.region offset)) list.cuts) l.kept) (IsOfAny (λ list. IsOfAny (λ offset. IsIn l.segments (IsAt list.region offset)) list.cuts) (take l.list-index l.kept)) l.fn.set l.set

use Rattle.std.proofs.Common.{take}
use Rattle.asi_cuts.specs.Adding.{IsAt, IsIn, IsOfAny}
use Rattle.asi_cuts.proofs.AddLemmas.{Reached}
use Rattle.asi_cuts.proofs.spread.add_list.Given as goal

abbrev pub invariant-loop-offset : goal.invariant-loop-offset
invariant-loop-offset l = Reached (IsOfAny (λ offset. IsIn l.segments (IsAt l.list.region offset)) l.list.cuts) (IsOfAny (λ offset. IsIn l.segments (IsAt l.list.region offset)) (take l.offset-index l.list.cuts)) l.fn.set l.set

use Rattle.std.proofs.Common.{take}
use Rattle.asi_cuts.specs.Adding.{IsInSegment, IsOfAny}
use Rattle.asi_cuts.proofs.AddLemmas.{Reached}
use Rattle.asi_cuts.proofs.spread.add_global.Given as goal

abbrev pub invariant-loop-segment : goal.invariant-loop-segment
invariant-loop-segment l = Reached (IsOfAny (IsInSegment l.row) l.segments) (IsOfAny (IsInSegment l.row) (take l.segment-index l.segments)) l.fn.set l.set

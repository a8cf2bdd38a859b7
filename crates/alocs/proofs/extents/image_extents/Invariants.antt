use Rattle.alocs.proofs.SegmentLemmas.{OfFirst}
use Rattle.alocs.proofs.extents.image_extents.Given as goal

abbrev pub invariant-loop-segment : goal.invariant-loop-segment
invariant-loop-segment l = OfFirst l.segments l.segment-index l.extents.items

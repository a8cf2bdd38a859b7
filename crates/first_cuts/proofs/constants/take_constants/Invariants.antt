use Rattle.std.proofs.Common.{◌≡◌, drop}
use Rattle.std.specs.List.{flat_map}
use Rattle.first_cuts.specs.Constants.{scanned_segment}
use Rattle.first_cuts.specs.Taking.{taken_from}
use Rattle.first_cuts.proofs.constants.take_constants.Given as goal

abbrev pub invariant-loop-segment : goal.invariant-loop-segment
invariant-loop-segment l = taken_from l.image l.taken.items (flat_map (scanned_segment l.image) (drop l.segment-index l.segment-items)) ≡ taken_from l.image l.initial.taken.items (flat_map (scanned_segment l.image) l.image.segments)

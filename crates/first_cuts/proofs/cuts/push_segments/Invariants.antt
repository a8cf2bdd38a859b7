use Rattle.std.proofs.Common.{◌≡◌, ◌++◌, drop}
use Rattle.std.specs.List.{flat_map}
use Rattle.first_cuts.specs.FirstCuts.{ends_of}
use Rattle.first_cuts.proofs.cuts.push_segments.Given as goal

abbrev pub invariant-loop-segment : goal.invariant-loop-segment
invariant-loop-segment l = l.cuts.items ++ flat_map ends_of (drop l.segment-index l.segments) ≡ l.initial.cuts.items ++ flat_map ends_of l.segments

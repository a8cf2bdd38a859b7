use Rattle.std.proofs.Common.{◌≡◌, ◌++◌, take, drop}
use Rattle.first_cuts.specs.FirstCuts.{with_offset}
use Rattle.first_cuts.proofs.taking.place.Given as goal

abbrev pub invariant-loop-i : goal.invariant-loop-i
invariant-loop-i l = with_offset l.offset l.taken ≡ take l.i l.taken ++ with_offset l.offset (drop l.i l.taken)

use Rattle.std.proofs.Common.{◌≡◌, drop}
use Rattle.first_cuts.specs.FirstCuts.{taken_onto}
use Rattle.first_cuts.proofs.taking.take_all.Given as goal

abbrev pub invariant-loop-offset : goal.invariant-loop-offset
invariant-loop-offset l = taken_onto l.taken.items (drop l.offset-index l.offsets) ≡ taken_onto l.initial.taken.items l.offsets

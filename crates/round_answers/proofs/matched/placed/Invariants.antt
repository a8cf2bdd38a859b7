use Rattle.std.proofs.Common.{◌≡◌, ◌++◌, map, drop}
use Rattle.transfer_flow.specs.Successors.{placed_of}
use Rattle.vsa.specs.Views.{placed_with}
use Rattle.round_answers.proofs.matched.placed.Given as goal

abbrev pub invariant-loop-i : goal.invariant-loop-i
invariant-loop-i l = map placed_of l.out.items ++ placed_with (drop l.i l.nodes) (drop l.i l.values) ≡ placed_with l.nodes l.values

use Rattle.std.proofs.Common.{◌≡◌, ◌++◌, drop, map}
use Rattle.transfer_flow.specs.Successors.{placed_of}
use Rattle.vsa.proofs.LentLemmas.{placed_at}
use Rattle.vsa.proofs.domain.states.Given as goal

abbrev pub invariant-loop-other : goal.invariant-loop-other
invariant-loop-other l = map placed_of l.out.items ++ map placed_at (drop l.other-index l.others) ≡ map placed_at l.others

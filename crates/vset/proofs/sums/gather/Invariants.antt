use Rattle.std.proofs.Common.{◌≡◌, [], drop}
use Rattle.vset.specs.Operations.{pairs, gathered}
use Rattle.vset.proofs.sums.gather.Given as goal

abbrev pub invariant-loop-x : goal.invariant-loop-x
invariant-loop-x l = gathered l.out.items (pairs l.pairing (drop l.x-index l.xs) l.ys) ≡ gathered [] (pairs l.pairing l.xs l.ys)

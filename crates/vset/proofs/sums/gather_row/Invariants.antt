use Rattle.std.proofs.Common.{◌≡◌, map, drop}
use Rattle.vset.specs.Operations.{pair_of, gathered}
use Rattle.vset.proofs.sums.gather_row.Given as goal

abbrev pub invariant-loop-y : goal.invariant-loop-y
invariant-loop-y l = gathered l.out.items (map (pair_of l.pairing l.x) (drop l.y-index l.ys)) ≡ gathered l.fn.into.items (map (pair_of l.pairing l.x) l.ys)

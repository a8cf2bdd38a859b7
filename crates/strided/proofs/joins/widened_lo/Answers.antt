-- The old end where the new one isn't less, and else the least word.
use Rattle.std.proofs.Common.{◌≡◌, refl, arith}
use Rattle.std.proofs.lemmas.Int.{ints}
use Rattle.strided.specs.Interval.{Interval}
use Rattle.strided.specs.Operations.{lowest}
use Rattle.strided.proofs.JoinLemmas.{lo_kept, lo_moved, same_lowest}
use Rattle.strided.proofs.joins.widened_lo.Goals as goal

pub returns-then-lo : goal.returns-then-lo
returns-then-lo c = lo_kept _ c.args.stride c.args.old.now c.args.new.now (omega (arith, ints)) (omega (arith, ints))

pub returns-else-lo : goal.returns-else-lo
returns-else-lo c =
    let a : Interval = c.args.old.now in
    let far : c.lowest.result ≡ lowest c.args.stride a.lo = same_lowest c.lowest.ensures c.args.stride a.lo refl (omega (arith, ints)) in
    lo_moved _ c.args.stride a c.args.new.now (omega (arith, ints)) (omega (arith, ints))

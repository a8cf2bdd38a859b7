-- The old end where the new one isn't greater, and else the greatest word.
use Rattle.std.proofs.Common.{arith}
use Rattle.std.proofs.lemmas.Int.{ints}
use Rattle.strided.proofs.JoinLemmas.{hi_kept, hi_moved}
use Rattle.strided.proofs.joins.widened_hi.Goals as goal

pub returns-then-hi : goal.returns-then-hi
returns-then-hi c = hi_kept _ c.args.old.now c.args.new.now (omega (arith, ints)) (omega (arith, ints))

pub returns-else-hi : goal.returns-else-hi
returns-else-hi c = hi_moved _ c.args.old.now c.args.new.now (omega (arith, ints)) (omega (arith, ints))

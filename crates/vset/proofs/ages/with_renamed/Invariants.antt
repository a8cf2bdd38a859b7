use Rattle.std.proofs.Common.{◌≡◌, drop}
use Rattle.vset.specs.Operations.{with_renamed}
use Rattle.vset.proofs.ages.with_renamed.Given as goal

abbrev pub invariant-loop-p : goal.invariant-loop-p
invariant-loop-p l = with_renamed l.from l.to (drop l.p-index l.ps) l.out.items ≡ with_renamed l.from l.to l.ps l.fn.into.items

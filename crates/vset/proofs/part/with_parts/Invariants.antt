use Rattle.std.proofs.Common.{◌≡◌, drop}
use Rattle.vset.specs.Operations.{with_parts}
use Rattle.vset.proofs.part.with_parts.Given as goal

abbrev pub invariant-loop-p : goal.invariant-loop-p
invariant-loop-p l = with_parts l.both (drop l.p-index l.ps) l.out.items ≡ with_parts l.both l.ps l.into

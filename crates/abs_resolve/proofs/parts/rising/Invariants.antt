use Rattle.std.proofs.Common.{◌≡◌, [], drop}
use Rattle.abs_semantics.specs.Resolve.{rising_onto}
use Rattle.abs_resolve.proofs.parts.rising.Given as goal

abbrev pub invariant-loop-x : goal.invariant-loop-x
invariant-loop-x l = rising_onto l.out.items (drop l.x-index l.parts) ≡ rising_onto [] l.parts

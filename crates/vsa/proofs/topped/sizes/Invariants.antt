use Rattle.std.proofs.Common.{◌≡◌, ◌++◌, take, drop}
use Rattle.std.specs.Prelude.{map}
use Rattle.vsa.specs.Topped.{topped_size}
use Rattle.vsa.proofs.topped.sizes.Given as goal

abbrev pub invariant-loop-i : goal.invariant-loop-i
invariant-loop-i l = l.out.items ≡ map (topped_size l.old) (take l.i l.new) ++ drop l.i l.new

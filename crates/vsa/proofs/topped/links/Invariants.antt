use Rattle.std.proofs.Common.{◌≡◌, ◌++◌, take, drop}
use Rattle.std.specs.Prelude.{map}
use Rattle.vsa.specs.Topped.{topped_link}
use Rattle.vsa.proofs.topped.links.Given as goal

abbrev pub invariant-loop-i : goal.invariant-loop-i
invariant-loop-i l = l.out.items ≡ map (topped_link l.old) (take l.i l.new) ++ drop l.i l.new

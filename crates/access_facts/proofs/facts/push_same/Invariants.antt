use Rattle.std.proofs.Common.{◌≡◌, ◌++◌, map, drop}
use Rattle.access_facts.specs.Facts.{same}
use Rattle.access_facts.proofs.facts.push_same.Given as goal

abbrev pub invariant-loop-y : goal.invariant-loop-y
invariant-loop-y l = l.facts.items ++ map (same l.len l.x) (drop l.y-index l.ys) ≡ l.initial.facts.items ++ map (same l.len l.x) l.ys

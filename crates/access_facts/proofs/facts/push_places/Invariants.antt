use Rattle.std.proofs.Common.{◌≡◌, ◌++◌, map, drop}
use Rattle.std.specs.List.{flat_map}
use Rattle.access_facts.specs.Facts.{same}
use Rattle.access_facts.proofs.facts.push_places.Given as goal

abbrev pub invariant-loop-x : goal.invariant-loop-x
invariant-loop-x l = l.facts.items ++ flat_map (λ x. map (same l.len x) l.ys) (drop l.x-index l.xs) ≡ l.initial.facts.items ++ flat_map (λ x. map (same l.len x) l.ys) l.xs

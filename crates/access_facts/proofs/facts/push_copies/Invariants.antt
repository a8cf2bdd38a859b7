use Rattle.std.proofs.Common.{◌≡◌, ◌++◌, drop}
use Rattle.std.specs.List.{flat_map}
use Rattle.access_facts.specs.Facts.{facts_of_copy}
use Rattle.access_facts.proofs.facts.push_copies.Given as goal

abbrev pub invariant-loop-reach : goal.invariant-loop-reach
invariant-loop-reach l = l.facts.items ++ flat_map (λ r. flat_map (facts_of_copy r) l.to) (drop l.reach-index l.from) ≡ l.initial.facts.items ++ flat_map (λ r. flat_map (facts_of_copy r) l.to) l.from

use Rattle.std.proofs.Common.{◌≡◌, ◌++◌, drop}
use Rattle.std.specs.List.{flat_map}
use Rattle.access_facts.specs.Facts.{facts_of_reach}
use Rattle.access_facts.proofs.facts.push_reaches.Given as goal

abbrev pub invariant-loop-reach : goal.invariant-loop-reach
invariant-loop-reach l = l.facts.items ++ flat_map facts_of_reach (drop l.reach-index l.reaches) ≡ l.initial.facts.items ++ flat_map facts_of_reach l.reaches

use Rattle.std.proofs.Common.{◌≡◌, ◌++◌, length}
use Rattle.access_facts.specs.Facts.{facts_of_parts}
use Rattle.access_facts.proofs.facts.push_parts.Given as goal

abbrev pub invariant-loop-part : goal.invariant-loop-part
invariant-loop-part l = l.facts.items ++ facts_of_parts l.len l.rest ≡ l.initial.facts.items ++ facts_of_parts l.len l.parts

abbrev pub decreases-loop-part : goal.decreases-loop-part
decreases-loop-part l = length l.rest

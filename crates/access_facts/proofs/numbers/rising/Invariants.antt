use Rattle.std.proofs.Common.{◌≡◌, length, []}
use Rattle.abs_semantics.specs.Joins.{numbers_of}
use Rattle.access_facts.proofs.numbers.rising.Given as goal

abbrev pub invariant-loop-number : goal.invariant-loop-number
invariant-loop-number l = numbers_of l.rest l.found.items ≡ numbers_of l.numbers []

abbrev pub decreases-loop-number : goal.decreases-loop-number
decreases-loop-number l = length l.rest

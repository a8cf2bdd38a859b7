use Rattle.std.proofs.Common.{◌≡◌, ◌++◌, map, drop}
use Rattle.access_facts.specs.Sets.{slot_reach}
use Rattle.access_facts.proofs.calls.slots.Given as goal

abbrev pub invariant-loop-target : goal.invariant-loop-target
invariant-loop-target l = l.found.items ++ map slot_reach (drop l.target-index l.targets) ≡ map slot_reach l.targets

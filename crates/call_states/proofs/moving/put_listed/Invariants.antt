use Rattle.std.proofs.Common.{◌≡◌, drop}
use Rattle.call_states.specs.Moving.{moved_value, put_each}
use Rattle.call_states.proofs.moving.put_listed.Given as goal

abbrev pub invariant-loop-entry : goal.invariant-loop-entry
invariant-loop-entry l = put_each (moved_value l.cells l.change) (drop l.entry-index l.entries) l.out ≡ put_each (moved_value l.cells l.change) l.entries l.initial.out

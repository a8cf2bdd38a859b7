use Rattle.std.proofs.Common.{◌≡◌, drop}
use Rattle.abs_steps.specs.Calls.{moved}
use Rattle.call_states.specs.Moving.{moved_value, put_each}
use Rattle.call_states.proofs.moving.put_all_taken.Given as goal

abbrev pub invariant-loop-entry : goal.invariant-loop-entry
invariant-loop-entry l =
    put_each (moved_value l.cells l.change) (moved l.change.from l.change.to (drop l.entry-index l.entries)) l.out
    ≡ put_each (moved_value l.cells l.change) (moved l.change.from l.change.to l.entries) l.initial.out

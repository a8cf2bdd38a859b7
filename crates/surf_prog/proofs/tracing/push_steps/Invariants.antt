use Rattle.std.proofs.Common.{◌≡◌, ◌+◌, ◌++◌, length}
use Rattle.surf_prog.specs.Tracing.{step_lines}
use Rattle.surf_prog.proofs.tracing.push_steps.Given as goal

abbrev pub invariant-steps_left : goal.invariant-steps_left
invariant-steps_left l = record {
  text : l.text.items ++ step_lines l.fn.skip_sp l.number l.rest ≡ l.fn.text.items ++ step_lines l.fn.skip_sp 0 l.fn.steps;
  count : l.number + length l.rest ≡ length l.fn.steps;
}

abbrev pub decreases-steps_left : goal.decreases-steps_left
decreases-steps_left l = length l.rest

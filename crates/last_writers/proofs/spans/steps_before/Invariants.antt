use Rattle.std.specs.Prelude.{◌≡◌, ◌++◌, drop}
use Rattle.last_writers.specs.Cuts.{steps_before}
use Rattle.last_writers.proofs.spans.steps_before.Given as goal

abbrev pub invariant-loop-w : goal.invariant-loop-w
invariant-loop-w l = l.steps.items ++ steps_before l.end (drop l.w-index l.spans) ≡ steps_before l.end l.spans

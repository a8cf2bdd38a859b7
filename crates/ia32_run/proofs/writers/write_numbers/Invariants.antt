use Rattle.ia32_run.specs.Writers.{WroteNumbers}
use Rattle.ia32_run.proofs.writers.write_numbers.Given as goal

abbrev pub invariant-loop-n : goal.invariant-loop-n
invariant-loop-n l = WroteNumbers l.numbers l.low l.n l.step l.initial.writers l.writers

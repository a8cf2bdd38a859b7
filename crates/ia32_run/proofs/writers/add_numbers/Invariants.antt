use Rattle.ia32_run.proofs.WriterLemmas.{AddedNumbers}
use Rattle.ia32_run.proofs.writers.add_numbers.Given as goal

abbrev pub invariant-loop-n : goal.invariant-loop-n
invariant-loop-n l = AddedNumbers l.writers l.set.0 l.set.1 l.low l.n l.initial.found.items l.found.items

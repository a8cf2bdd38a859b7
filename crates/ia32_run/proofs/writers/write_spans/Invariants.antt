use Rattle.ia32_run.proofs.WriterLemmas.{WriteLeft}
use Rattle.ia32_run.proofs.writers.write_spans.Given as goal

abbrev pub invariant-loop-span : goal.invariant-loop-span
invariant-loop-span l = WriteLeft l.spans l.span-index l.step l.initial.writers l.writers

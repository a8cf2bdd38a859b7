use Rattle.ia32_run.proofs.WriterLemmas.{AddLeft}
use Rattle.ia32_run.proofs.writers.add_spans.Given as goal

abbrev pub invariant-loop-span : goal.invariant-loop-span
invariant-loop-span l = AddLeft l.writers l.spans l.span-index l.initial.found.items l.found.items

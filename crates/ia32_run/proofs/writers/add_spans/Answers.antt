use Rattle.ia32_run.proofs.WriterLemmas.{add_more, add_all}
use Rattle.ia32_run.proofs.writers.add_spans.Goals as goal

pub loop-span-preserved : goal.loop-span-preserved
loop-span-preserved c = add_more c.args.writers.now c.args.spans.now c.loop-span.span-index c.args.found.now.items c.loop-span.found.items c.add_span.new.found.items _ c.loop-span-test.true c.in_ok-add_span.ensures c.loop-span.invariant

pub returns : goal.returns
returns c = add_all c.args.writers.now c.args.spans.now c.loop-span.span-index c.args.found.now.items c.loop-span.found.items c.loop-span-test.false c.loop-span.invariant

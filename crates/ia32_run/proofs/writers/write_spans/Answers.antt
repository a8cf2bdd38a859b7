use Rattle.ia32_run.proofs.WriterLemmas.{write_more, write_all}
use Rattle.ia32_run.proofs.writers.write_spans.Goals as goal

pub loop-span-preserved : goal.loop-span-preserved
loop-span-preserved c = write_more c.args.spans.now c.loop-span.span-index c.args.step c.args.writers.now c.loop-span.writers c.write_span.new.writers _ c.loop-span-test.true c.in_ok-write_span.ensures c.loop-span.invariant

pub returns : goal.returns
returns c = write_all c.args.spans.now c.loop-span.span-index c.args.step c.args.writers.now c.loop-span.writers c.loop-span-test.false c.loop-span.invariant

use Rattle.std.proofs.Common.{ap, ◌∙◌}
use Rattle.std.specs.Prelude.{map}
use Rattle.std.proofs.lemmas.List.{take_all}
use Rattle.ia32_memory.specs.Mapped.{span_of}
use Rattle.ia32_memory.proofs.SpanLemmas.{span_more}
use Rattle.ia32_memory.proofs.spans.spans_of.Goals as goal

pub loop-segment-preserved : goal.loop-segment-preserved
loop-segment-preserved c =
    span_more c.args.segments.now c.loop-segment.segment-index c.segment-item.result c.loop-segment.spans.items _ c.span_of.result
    c.loop-segment.invariant c.loop-segment-test.true (c.span_of.ensures ∙ ap span_of c.segment-item.is) c.in_ok-push.ensures.items

pub returns : goal.returns
returns c = c.loop-segment.invariant ∙ ap (map span_of) (take_all c.loop-segment.segment-index c.args.segments.now c.loop-segment-test.false)

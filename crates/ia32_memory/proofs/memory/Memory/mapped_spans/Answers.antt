use Rattle.std.proofs.Common.{ap, ◌∙◌}
use Rattle.std.specs.Prelude.{List}
use Rattle.image_map.specs.declared.image.Segment.{Segment}
use Rattle.image_map.specs.declared.spans.Span.{Span}
use Rattle.image_map.specs.Ranges.{is_any}
use Rattle.std.specs.Prelude.{map}
use Rattle.ia32_memory.specs.Mapped.{span_of}
use Rattle.ia32_memory.proofs.SpanLemmas.{spans_are_mapped}
use Rattle.ia32_memory.proofs.memory.Memory.mapped_spans.Goals as goal

pub returns : goal.returns
returns c = λ a.
    ap (λ (l : List Span). is_any l a) (c.in_ok-spans.ensures ∙ ap (λ (ss : List Segment). map span_of ss) c.segments.ensures) ∙ spans_are_mapped c.args.self.now a

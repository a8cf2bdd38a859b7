use Rattle.std.proofs.Common.{get_or, take, ap, sym, ◌∙◌}
use Rattle.std.specs.Prelude.{List}
use Rattle.std.proofs.lemmas.List.{take_all, take_more}
use Rattle.image_map.specs.declared.spans.Span.{Span}
use Rattle.image_map.specs.Ranges.{is_any}
use Rattle.ia32_semantics.specs.State.{Bytes}
use Rattle.item_list.specs.Ranges.{within}
use Rattle.ia32_memory.specs.Mapped.{bytes_of}
use Rattle.ia32_memory.specs.Changes.{cleared}
use Rattle.ia32_memory.proofs.StartLemmas.{spans_more}
use Rattle.ia32_memory.proofs.memory.Memory.clear_spans.Goals as goal

pub loop-span-preserved : goal.loop-span-preserved
loop-span-preserved c =
    let s : Span = get_or c.args.spans.now c.loop-span.span-index (record { start = 0; end = 0 }) in
    record {
      bytes = c.clear_range.ensures.bytes
          ∙ ap (λ (m : Bytes). cleared (λ a. within s.start s.end a) m) c.loop-span.invariant.bytes
          ∙ spans_more (bytes_of c.args.self.now) (take c.loop-span.span-index c.args.spans.now) s
          ∙ ap (λ (l : List Span). cleared (λ a. is_any l a) (bytes_of c.args.self.now)) (sym (take_more c.args.spans.now c.loop-span.span-index (record { start = 0; end = 0 }) c.loop-span-test.true));
      shapes = c.clear_range.ensures.shapes ∙ c.loop-span.invariant.shapes;
    }

pub returns-clause-bytes : goal.returns-clause-bytes
returns-clause-bytes c =
    c.loop-span.invariant.bytes
    ∙ ap (λ (l : List Span). cleared (λ a. is_any l a) (bytes_of c.args.self.now)) (take_all c.loop-span.span-index c.args.spans.now c.loop-span-test.false)

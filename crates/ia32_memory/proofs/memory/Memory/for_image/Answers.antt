use Rattle.std.proofs.Common.{◌≡◌, ◌-◌, ◌∷◌, List, subst, sym, ap, ◌∙◌, arith}
use Rattle.image_map.specs.declared.image.Segment.{Segment}
use Rattle.image_map.specs.declared.spans.Span.{Span}
use Rattle.image_map.specs.Ranges.{is_any}
use Rattle.image_map.specs.Shapes.{shapes}
use Rattle.ia32_memory.specs.Mapped.{bytes_of, AreWithin, IsClear, HaveBytes, zeros_from}
use Rattle.ia32_memory.specs.Changes.{cleared}
use Rattle.ia32_memory.proofs.ShapeLaws.{same_open, same_first}
use Rattle.ia32_memory.proofs.MakeLemmas.{zeros_within, zeros_clear}
use Rattle.ia32_memory.proofs.StartLemmas.{image_within, stack_holds, started_bytes, started_open, started_sized}
use Rattle.ia32_memory.proofs.memory.Memory.for_image.Goals as goal

pub invariant_of-memory : goal.invariant_of-memory
invariant_of-memory c =
    let all : c.in_ok-stack_and_segments.field-0.items ≡ zeros_from (c.args.slot - 1048576) 1114112 ∷ c.args.image.now.segments =
    c.in_ok-stack_and_segments.ensures.segments ∙ ap (λ (ss : List Segment). zeros_from (c.args.slot - 1048576) 1114112 ∷ ss) c.as_slice.ensures in
    let top = c.requires.slot.below in (
      subst AreWithin (sym all) (zeros_within (c.args.slot - 1048576) 1114112 (omega arith), image_within c.args.image.now.segments c.requires.image.segments),
      subst (IsClear 1048576) (sym all) (λ k h. zeros_clear (c.args.slot - 1048576) 1114112 k),
    )

pub returns-clause-bytes : goal.returns-clause-bytes
returns-clause-bytes c =
    let all : c.in_ok-stack_and_segments.field-0.items ≡ zeros_from (c.args.slot - 1048576) 1114112 ∷ c.args.image.now.segments =
    c.in_ok-stack_and_segments.ensures.segments ∙ ap (λ (ss : List Segment). zeros_from (c.args.slot - 1048576) 1114112 ∷ ss) c.as_slice.ensures in
    started_bytes c.args.image.now c.args.slot (bytes_of c.clear_spans.new.self) c.requires.slot
    (c.clear_spans.ensures.bytes
    ∙ ap (λ (l : List Span). cleared (λ a. is_any l a) (bytes_of c.in_ok-stack_and_segments.field-0.items)) c.as_slice-2.ensures.spans
    ∙ ap (λ (ss : List Segment). cleared (λ a. is_any c.args.image.now.any_bytes a) (bytes_of ss)) all)

pub returns-clause-open : goal.returns-clause-open
returns-clause-open c = λ a.
    let all : c.in_ok-stack_and_segments.field-0.items ≡ zeros_from (c.args.slot - 1048576) 1114112 ∷ c.args.image.now.segments =
    c.in_ok-stack_and_segments.ensures.segments ∙ ap (λ (ss : List Segment). zeros_from (c.args.slot - 1048576) 1114112 ∷ ss) c.as_slice.ensures in
    started_open c.args.image.now c.args.slot a (bytes_of c.clear_spans.new.self) c.clear_spans.new.self c.requires.image c.requires.slot
    (started_bytes c.args.image.now c.args.slot (bytes_of c.clear_spans.new.self) c.requires.slot
    (c.clear_spans.ensures.bytes
    ∙ ap (λ (l : List Span). cleared (λ a. is_any l a) (bytes_of c.in_ok-stack_and_segments.field-0.items)) c.as_slice-2.ensures.spans
    ∙ ap (λ (ss : List Segment). cleared (λ a. is_any c.args.image.now.any_bytes a) (bytes_of ss)) all))
    (same_open c.clear_spans.new.self (zeros_from (c.args.slot - 1048576) 1114112 ∷ c.args.image.now.segments) (c.clear_spans.ensures.shapes ∙ ap shapes all))

pub returns-clause-stack : goal.returns-clause-stack
returns-clause-stack c = λ a.
    let all : c.in_ok-stack_and_segments.field-0.items ≡ zeros_from (c.args.slot - 1048576) 1114112 ∷ c.args.image.now.segments =
    c.in_ok-stack_and_segments.ensures.segments ∙ ap (λ (ss : List Segment). zeros_from (c.args.slot - 1048576) 1114112 ∷ ss) c.as_slice.ensures in
    let above = c.requires.slot.above in
    same_first c.clear_spans.new.self (zeros_from (c.args.slot - 1048576) 1114112 ∷ c.args.image.now.segments) (c.clear_spans.ensures.shapes ∙ ap shapes all) a
    ∙ stack_holds c.args.slot a (omega arith)

pub returns-clause-sized : goal.returns-clause-sized
returns-clause-sized c =
    let all : c.in_ok-stack_and_segments.field-0.items ≡ zeros_from (c.args.slot - 1048576) 1114112 ∷ c.args.image.now.segments =
    c.in_ok-stack_and_segments.ensures.segments ∙ ap (λ (ss : List Segment). zeros_from (c.args.slot - 1048576) 1114112 ∷ ss) c.as_slice.ensures in
    started_sized c.args.image.now c.args.slot (bytes_of c.clear_spans.new.self) (subst HaveBytes c.as_slice.ensures c.in_ok-stack_and_segments.ensures.bytes)
    (started_bytes c.args.image.now c.args.slot (bytes_of c.clear_spans.new.self) c.requires.slot
    (c.clear_spans.ensures.bytes
    ∙ ap (λ (l : List Span). cleared (λ a. is_any l a) (bytes_of c.in_ok-stack_and_segments.field-0.items)) c.as_slice-2.ensures.spans
    ∙ ap (λ (ss : List Segment). cleared (λ a. is_any c.args.image.now.any_bytes a) (bytes_of ss)) all))

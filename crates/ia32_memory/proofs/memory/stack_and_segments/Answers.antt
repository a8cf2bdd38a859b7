use Rattle.std.proofs.Common.{subst, ◌∙◌}
use Rattle.image_map.specs.declared.image.Segment.{Segment}
use Rattle.ia32_memory.specs.Mapped.{AreBytes}
use Rattle.ia32_memory.proofs.StartLemmas.{copied_more, small_more}
use Rattle.ia32_memory.proofs.memory.stack_and_segments.Goals as goal

pub loop-segment-preserved : goal.loop-segment-preserved
loop-segment-preserved c = record {
  segments = copied_more c.loop-segment.segments.items c.args.image.now _ c.loop-segment.segment-index c.in_ok-copied.field-0 c.segment-item.result _
      c.loop-segment.invariant.segments c.loop-segment-test.true (c.in_ok-copied.ensures.same ∙ c.segment-item.is) c.in_ok-push-2.ensures.items;
  bytes = small_more c.args.image.now c.loop-segment.segment-index c.segment-item.result c.loop-segment-test.true c.loop-segment.invariant.bytes
      (subst (λ (s : Segment). AreBytes s.bytes) c.segment-item.is c.in_ok-copied.ensures.bytes);
}

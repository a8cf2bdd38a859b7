use Rattle.std.proofs.Common.{◌≡◌, take}
use Rattle.std.specs.Prelude.{map}
use Rattle.ia32_memory.specs.Mapped.{span_of}
use Rattle.ia32_memory.proofs.spans.spans_of.Given as goal

abbrev pub invariant-loop-segment : goal.invariant-loop-segment
invariant-loop-segment l = l.spans.items ≡ map span_of (take l.segment-index l.segments)

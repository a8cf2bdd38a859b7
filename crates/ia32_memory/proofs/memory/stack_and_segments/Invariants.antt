use Rattle.std.proofs.Common.{◌≡◌, ◌-◌, ◌∷◌, take}
use Rattle.ia32_memory.specs.Mapped.{HaveBytes, zeros_from}
use Rattle.ia32_memory.proofs.memory.stack_and_segments.Given as goal

abbrev pub invariant-loop-segment : goal.invariant-loop-segment
invariant-loop-segment l = record {
  segments : l.segments.items ≡ zeros_from (l.slot - 1048576) 1114112 ∷ take l.segment-index l.image;
  bytes : HaveBytes (take l.segment-index l.image);
}

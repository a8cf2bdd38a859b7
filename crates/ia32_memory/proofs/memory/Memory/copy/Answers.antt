use Rattle.std.proofs.Common.{◌+◌, ◌-◌, ◌∙◌, arith}
use Rattle.ia32_types.specs.Numbers.{size}
use Rattle.ia32_memory.specs.Mapped.{bytes_of}
use Rattle.ia32_memory.proofs.ElementLemmas.{copy_more, copy_done}
use Rattle.ia32_memory.proofs.memory.Memory.copy.Goals as goal

pub loop-preserved : goal.loop-preserved
loop-preserved c = record {
  bytes = copy_more c.args.elements.down (size c.args.elements.width) (c.args.elements.count - c.loop.counter) (c.args.elements.count - (c.loop.counter + 1)) c.loop.source c.loop.target _ _ (bytes_of c.loop.self) _ _
      (omega arith) c.next-source.ensures c.next-target.ensures c.copy_element.ensures.bytes c.loop.invariant.bytes;
  shapes = c.copy_element.ensures.shapes ∙ c.loop.invariant.shapes;
}

pub returns-clause-bytes : goal.returns-clause-bytes
returns-clause-bytes c =
    copy_done c.args.elements.down (size c.args.elements.width) (c.args.elements.count - c.loop.counter) c.loop.source c.loop.target (bytes_of c.loop.self) _ (omega arith) c.loop.invariant.bytes

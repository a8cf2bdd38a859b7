use Rattle.std.proofs.Common.{◌+◌, ◌-◌, ◌∙◌, arith}
use Rattle.ia32_types.specs.Numbers.{size}
use Rattle.ia32_memory.specs.Mapped.{bytes_of}
use Rattle.ia32_memory.proofs.ElementLemmas.{fill_more, fill_done}
use Rattle.ia32_memory.proofs.memory.Memory.fill.Goals as goal

pub loop-preserved : goal.loop-preserved
loop-preserved c = record {
  bytes = fill_more c.args.elements.down (size c.args.elements.width) c.args.value (c.args.elements.count - c.loop.counter) (c.args.elements.count - (c.loop.counter + 1)) c.loop.at _ (bytes_of c.loop.self) _ _
      (omega arith) c.next-at.ensures c.write.ensures.bytes c.loop.invariant.bytes;
  shapes = c.write.ensures.shapes ∙ c.loop.invariant.shapes;
}

pub returns-clause-bytes : goal.returns-clause-bytes
returns-clause-bytes c =
    fill_done c.args.elements.down (size c.args.elements.width) c.args.value (c.args.elements.count - c.loop.counter) c.loop.at (bytes_of c.loop.self) _ (omega arith) c.loop.invariant.bytes

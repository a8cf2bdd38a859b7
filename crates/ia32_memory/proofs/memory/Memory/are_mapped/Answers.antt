use Rattle.std.proofs.Common.{◌+◌, ◌-◌, ap, sym, ◌∙◌, arith}
use Rattle.ia32_semantics.specs.Effects.{is_mapped, all_among}
use Rattle.ia32_types.specs.Numbers.{size}
use Rattle.ia32_memory.specs.Mapped.{bytes_of}
use Rattle.ia32_memory.proofs.ElementLemmas.{elements_next, elements_fail, elements_done}
use Rattle.ia32_memory.proofs.memory.Memory.are_mapped.Goals as goal

pub returns-then-not-is_mapped : goal.returns-then-not-is_mapped
returns-then-not-is_mapped c =
    elements_fail (is_mapped (bytes_of c.args.self.now)) c.args.elements.down (size c.args.elements.width) (c.args.elements.count - c.loop.counter) (c.args.elements.count - (c.loop.counter + 1)) c.loop.at _
    c.loop.invariant (omega arith) (sym (c.is_mapped.ensures ∙ ap (all_among (is_mapped (bytes_of c.args.self.now)) c.loop.at) c.bytes-size.ensures.value) ∙ c.if-not-is_mapped.true)

pub loop-preserved : goal.loop-preserved
loop-preserved c =
    elements_next (is_mapped (bytes_of c.args.self.now)) c.args.elements.down (size c.args.elements.width) (c.args.elements.count - c.loop.counter) (c.args.elements.count - (c.loop.counter + 1)) c.loop.at _ _
    c.loop.invariant (omega arith) c.next-at.ensures (sym (c.is_mapped.ensures ∙ ap (all_among (is_mapped (bytes_of c.args.self.now)) c.loop.at) c.bytes-size.ensures.value) ∙ c.if-not-is_mapped.false)

pub returns : goal.returns
returns c = elements_done (is_mapped (bytes_of c.args.self.now)) c.args.elements.down (size c.args.elements.width) (c.args.elements.count - c.loop.counter) c.loop.at _ c.loop.invariant (omega arith)

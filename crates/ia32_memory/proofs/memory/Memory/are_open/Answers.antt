use Rattle.std.proofs.Common.{◌+◌, ◌-◌, ap, sym, ◌∙◌, arith}
use Rattle.ia32_semantics.specs.Effects.{all_among}
use Rattle.ia32_types.specs.Numbers.{size}
use Rattle.ia32_memory.specs.Mapped.{is_open_at}
use Rattle.ia32_memory.proofs.ElementLemmas.{elements_next, elements_fail, elements_done}
use Rattle.ia32_memory.proofs.memory.Memory.are_open.Goals as goal

pub returns-then-not-is_open : goal.returns-then-not-is_open
returns-then-not-is_open c =
    elements_fail (is_open_at c.args.self.now) c.args.elements.down (size c.args.elements.width) (c.args.elements.count - c.loop.counter) (c.args.elements.count - (c.loop.counter + 1)) c.loop.at _
    c.loop.invariant (omega arith) (sym (c.is_open.ensures ∙ ap (all_among (is_open_at c.args.self.now) c.loop.at) c.bytes-size.ensures.value) ∙ c.if-not-is_open.true)

pub loop-preserved : goal.loop-preserved
loop-preserved c =
    elements_next (is_open_at c.args.self.now) c.args.elements.down (size c.args.elements.width) (c.args.elements.count - c.loop.counter) (c.args.elements.count - (c.loop.counter + 1)) c.loop.at _ _
    c.loop.invariant (omega arith) c.next-at.ensures (sym (c.is_open.ensures ∙ ap (all_among (is_open_at c.args.self.now) c.loop.at) c.bytes-size.ensures.value) ∙ c.if-not-is_open.false)

pub returns : goal.returns
returns c = elements_done (is_open_at c.args.self.now) c.args.elements.down (size c.args.elements.width) (c.args.elements.count - c.loop.counter) c.loop.at _ c.loop.invariant (omega arith)

use Rattle.std.proofs.Common.{◌-◌, ◌%◌, ◌^◌, ◌+◌, ap, sym, ◌∙◌}
use Rattle.ia32_types.specs.Numbers.{size}
use Rattle.ia32_semantics.specs.Strings.{stepped}
use Rattle.ia32_memory.proofs.ElementLemmas.{stepped_down, stepped_up}
use Rattle.ia32_memory.proofs.elements.next.Goals as goal

pub returns-then-down : goal.returns-then-down
returns-then-down c =
    ap (λ z. (c.args.address + (2 ^ 32 - z)) % 2 ^ 32) c.bytes-size.ensures.value ∙ sym (stepped_down (size c.args.width) c.args.address)
    ∙ sym (ap (λ d. stepped d (size c.args.width) 1 c.args.address) c.if-down.true)

pub returns-else-down : goal.returns-else-down
returns-else-down c =
    ap (λ z. (c.args.address + z) % 2 ^ 32) c.bytes-size.ensures.value ∙ sym (stepped_up (size c.args.width) c.args.address)
    ∙ sym (ap (λ d. stepped d (size c.args.width) 1 c.args.address) c.if-down.false)

use Rattle.std.proofs.Common.{◌≡◌, ◌-◌}
use Rattle.ia32_types.specs.Numbers.{size}
use Rattle.ia32_memory.specs.Mapped.{is_open_at}
use Rattle.ia32_memory.specs.Changes.{all_in_elements}
use Rattle.ia32_memory.proofs.memory.Memory.are_open.Given as goal

abbrev pub invariant-loop : goal.invariant-loop
invariant-loop l =
    all_in_elements (is_open_at l.self) l.elements.down (size l.elements.width) l.elements.count l.address
    ≡ all_in_elements (is_open_at l.self) l.elements.down (size l.elements.width) (l.end - l.counter) l.at

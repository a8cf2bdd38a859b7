use Rattle.std.proofs.Common.{◌+◌, ap, sym, ◌∙◌}
use Rattle.ia32_types.specs.declared.Width.{Width}
use Rattle.ia32_semantics.specs.State.{Bytes}
use Rattle.ia32_types.specs.Numbers.{size}
use Rattle.ia32_semantics.specs.Operands.{number_bytes}
use Rattle.ia32_memory.specs.Mapped.{bytes_of}
use Rattle.ia32_memory.specs.Changes.{with_bytes}
use Rattle.ia32_memory.proofs.ElementLemmas.{four_number}
use Rattle.ia32_memory.proofs.memory.Memory.write.Goals as goal

pub returns-in-D32-clause-bytes : goal.returns-in-D32-clause-bytes
returns-in-D32-clause-bytes c =
    c.put_half-in-D32-2.ensures.bytes
    ∙ ap (λ (m : Bytes). with_bytes m (c.args.address + 0) (number_bytes 2 c.args.value)) c.put_half-in-D32.ensures.bytes
    ∙ four_number (bytes_of c.args.self.now) c.args.address c.args.value
    ∙ sym (ap (λ (w : Width). with_bytes (bytes_of c.args.self.now) c.args.address (number_bytes (size w) c.args.value)) c.in-D32.is)

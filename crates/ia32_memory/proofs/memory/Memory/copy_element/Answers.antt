use Rattle.std.proofs.Common.{◌+◌, List, [], ◌∷◌, ℕ, ap, sym, ◌∙◌}
use Rattle.ia32_types.specs.declared.Width.{Width}
use Rattle.ia32_semantics.specs.State.{Bytes}
use Rattle.ia32_semantics.specs.Effects.{bytes_from}
use Rattle.ia32_types.specs.Numbers.{size}
use Rattle.ia32_memory.specs.Mapped.{bytes_of}
use Rattle.ia32_memory.specs.Changes.{with_bytes}
use Rattle.ia32_memory.proofs.ElementLemmas.{four_with, four_from}
use Rattle.ia32_memory.proofs.memory.Memory.copy_element.Goals as goal

pub returns-in-D32-clause-bytes : goal.returns-in-D32-clause-bytes
returns-in-D32-clause-bytes c =
    c.put_two-in-D32-2.ensures.bytes
    ∙ ap (λ (m : Bytes). with_bytes m (c.args.to + 0) (c.byte_or_zero-b0.result ∷ c.byte_or_zero-b1-in-D32.result ∷ [])) c.put_two-in-D32.ensures.bytes
    ∙ four_with (bytes_of c.args.self.now) c.args.to c.byte_or_zero-b0.result c.byte_or_zero-b1-in-D32.result c.byte_or_zero-b2.result c.byte_or_zero-b3.result
    ∙ ap (λ (l : List ℕ). with_bytes (bytes_of c.args.self.now) c.args.to l)
    (four_from (bytes_of c.args.self.now) c.args.from c.byte_or_zero-b0.result c.byte_or_zero-b1-in-D32.result c.byte_or_zero-b2.result c.byte_or_zero-b3.result
    c.byte_or_zero-b0.ensures c.byte_or_zero-b1-in-D32.ensures c.byte_or_zero-b2.ensures c.byte_or_zero-b3.ensures)
    ∙ sym (ap (λ (w : Width). with_bytes (bytes_of c.args.self.now) c.args.to (bytes_from (bytes_of c.args.self.now) c.args.from (size w))) c.in-D32.is)

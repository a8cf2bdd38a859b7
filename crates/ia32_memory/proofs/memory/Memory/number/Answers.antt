use Rattle.std.proofs.Common.{sym, ap, ◌∙◌}
use Rattle.ia32_types.specs.declared.Width.{Width}
use Rattle.ia32_types.specs.Numbers.{size}
use Rattle.ia32_memory.specs.Mapped.{bytes_of, number_at}
use Rattle.ia32_memory.proofs.ReadLemmas.{one_is}
use Rattle.ia32_memory.proofs.memory.Memory.number.Goals as goal

pub returns-in-B8-clause-value : goal.returns-in-B8-clause-value
returns-in-B8-clause-value c =
    c.one_byte.ensures.value ∙ c.byte.ensures ∙ sym (one_is (bytes_of c.args.self.now) c.args.address)
    ∙ sym (ap (λ (w : Width). number_at (bytes_of c.args.self.now) (size w) c.args.address) c.in-B8.is)

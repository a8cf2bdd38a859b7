use Rattle.ia32_memory.specs.Mapped.{bytes_of}
use Rattle.ia32_memory.proofs.ReadLemmas.{half_of}
use Rattle.ia32_memory.proofs.memory.Memory.half.Goals as goal

pub returns-clause-value : goal.returns-clause-value
returns-clause-value c =
    half_of (bytes_of c.args.self.now) c.args.address c.args.distance _ _ _ c.byte_above-low.ensures c.byte_above-high.ensures c.both_bytes.ensures.value

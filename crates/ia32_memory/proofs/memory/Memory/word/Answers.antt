use Rattle.ia32_memory.specs.Mapped.{bytes_of}
use Rattle.ia32_memory.proofs.ReadLemmas.{word_of}
use Rattle.ia32_memory.proofs.memory.Memory.word.Goals as goal

pub returns : goal.returns
returns c = word_of (bytes_of c.args.self.now) c.args.address _ _ _ c.half-low.ensures.value c.half-high.ensures.value c.both_halves.ensures

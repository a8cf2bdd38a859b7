use Rattle.std.proofs.Common.{◌+◌, ◌-◌, sym, ◌∙◌, arith}
use Rattle.ia32_semantics.specs.Effects.{is_mapped}
use Rattle.ia32_memory.specs.Mapped.{bytes_of}
use Rattle.ia32_memory.proofs.ReadLemmas.{all_next}
use Rattle.ia32_memory.proofs.memory.Memory.is_mapped.Goals as goal

pub loop-distance-preserved : goal.loop-distance-preserved
loop-distance-preserved c =
    all_next (is_mapped (bytes_of c.args.self.now)) (c.args.address + c.loop-distance.distance) (c.args.address + (c.loop-distance.distance + 1))
    (c.args.count - c.loop-distance.distance) (c.args.count - (c.loop-distance.distance + 1)) _ c.loop-distance.invariant (omega arith) (omega arith)
    (sym c.is_mapped_above.ensures ∙ c.if-not-is_mapped_above.false)

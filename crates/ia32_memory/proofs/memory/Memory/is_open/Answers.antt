use Rattle.std.proofs.Common.{◌+◌, ◌-◌, sym, ◌∙◌, arith}
use Rattle.ia32_memory.specs.Mapped.{is_open_at}
use Rattle.ia32_memory.proofs.ReadLemmas.{all_next}
use Rattle.ia32_memory.proofs.memory.Memory.is_open.Goals as goal

pub loop-distance-preserved : goal.loop-distance-preserved
loop-distance-preserved c =
    all_next (is_open_at c.args.self.now) (c.args.address + c.loop-distance.distance) (c.args.address + (c.loop-distance.distance + 1))
    (c.args.count - c.loop-distance.distance) (c.args.count - (c.loop-distance.distance + 1)) _ c.loop-distance.invariant (omega arith) (omega arith)
    (sym c.may_write_above.ensures ∙ c.if-not-may_write_above.false)

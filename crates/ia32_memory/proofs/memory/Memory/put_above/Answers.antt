use Rattle.std.proofs.Common.{◌+◌, ◌^◌}
use Rattle.ia32_memory.specs.Mapped.{bytes_of}
use Rattle.ia32_memory.proofs.ReadLemmas.{past_none, not_below}
use Rattle.ia32_memory.proofs.WriteLemmas.{put_unmapped}
use Rattle.ia32_memory.proofs.memory.Memory.put_above.Goals as goal

pub returns-in-None-clause-bytes : goal.returns-in-None-clause-bytes
returns-in-None-clause-bytes c =
    put_unmapped (bytes_of c.args.self.now) (c.args.address + c.args.distance) c.args.byte
    (past_none c.args.self.now (c.args.address + c.args.distance) c.ends.ensures (not_below _ (2 ^ 32) c.in-None.ensures))

use Rattle.std.proofs.Common.{◌+◌, ◌^◌, sym}
use Rattle.ia32_memory.proofs.ReadLemmas.{past_open, not_below}
use Rattle.ia32_memory.proofs.memory.Memory.may_write_above.Goals as goal

pub returns-in-None : goal.returns-in-None
returns-in-None c = sym (past_open c.args.self.now (c.args.address + c.args.distance) c.ends.ensures (not_below _ (2 ^ 32) c.in-None.ensures))

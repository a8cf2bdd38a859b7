use Rattle.std.proofs.Common.{subst}
use Rattle.ia32_memory.specs.Mapped.{AreBytes}
use Rattle.ia32_memory.proofs.memory.copied.Goals as goal

pub returns-in_err-copy-clause-bytes : goal.returns-in_err-copy-clause-bytes
returns-in_err-copy-clause-bytes c = subst AreBytes c.as_slice-bytes.ensures c.bytes_are_small.ensures

pub returns-clause-bytes : goal.returns-clause-bytes
returns-clause-bytes c = subst AreBytes c.as_slice-bytes.ensures c.bytes_are_small.ensures

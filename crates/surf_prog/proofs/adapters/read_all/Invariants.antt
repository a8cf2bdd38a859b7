use Rattle.std.proofs.Common.{◌≤◌, length}
use Rattle.surf_prog.proofs.adapters.read_all.Given as goal

abbrev pub invariant-chunks : goal.invariant-chunks
invariant-chunks g l = length l.bytes.items ≤ l.limit

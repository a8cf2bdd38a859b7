use Rattle.std.proofs.Common.{arith}
use Rattle.control_walks.proofs.scratch.flood.Goals as goal

pub returns-clause-escapes : goal.returns-clause-escapes
returns-clause-escapes c = λ m at stands. c.flood_all.ensures.floods.escapes m 0 at (record { among = omega arith; stands = stands })

use Rattle.std.proofs.Common.{◌≡◌}
use Rattle.std.specs.Prelude.{replicate}
use Rattle.round_core.specs.Protocol.{first_lane}
use Rattle.round_core.proofs.machine.Core.make.Given as goal

abbrev pub invariant-loop : goal.invariant-loop
invariant-loop l = l.made.items ≡ replicate l.counter (first_lane l.seats)

use Rattle.std.proofs.Common.{◌≡◌, length}
use Rattle.round_slots.specs.Rows.{AreRows}
use Rattle.round_slots.proofs.make.fresh_rows.Given as goal

abbrev pub invariant-loop-lane : goal.invariant-loop-lane
invariant-loop-lane g l = (length l.rows.items ≡ l.lane) × AreRows l.fn.key 0 l.rows.items

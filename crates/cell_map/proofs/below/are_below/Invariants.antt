use Rattle.std.proofs.Common.{◌≡◌, drop}
use Rattle.cell_map.specs.Lists.{AreRising}
use Rattle.cell_map.specs.Merges.{are_below}
use Rattle.cell_map.proofs.below.are_below.Given as goal

abbrev pub invariant-loop-y : goal.invariant-loop-y
invariant-loop-y l = (are_below l.a l.left (drop l.y-index l.ys) ≡ are_below l.a l.xs l.ys) × AreRising l.left × AreRising (drop l.y-index l.ys)

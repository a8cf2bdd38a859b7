use Rattle.std.proofs.Common.{◌≡◌, ◌++◌, ◌+◌, ◌-◌, drop, length}
use Rattle.cell_map.specs.Merges.{merged, side_of, value_of_both}
use Rattle.cell_map.proofs.merge.merge.Given as goal

abbrev pub invariant-loop-i : goal.invariant-loop-i
invariant-loop-i l =
    (l.out.items ++ merged (value_of_both l.rule.both l.rule.first l.rule.second) (drop l.i l.xs) (drop l.j l.ys) ≡ merged (value_of_both l.rule.both l.rule.first l.rule.second) l.xs l.ys)
    × (l.turn.side ≡ side_of l.rule.both l.rule.first l.rule.second l.turn.region)

abbrev pub decreases-loop-i : goal.decreases-loop-i
decreases-loop-i l = (length l.xs - l.i) + (length l.ys - l.j)

use Rattle.std.proofs.Common.{◌≡◌, ◌++◌, drop}
use Rattle.cell_map.specs.Merges.{alone, side_of}
use Rattle.cell_map.proofs.merge.put_rest.Given as goal

abbrev pub invariant-loop-e : goal.invariant-loop-e
invariant-loop-e l =
    (l.out.items ++ alone l.rule.both l.rule.first l.rule.second l.side (drop l.e-index l.es) ≡ l.initial.out.items ++ alone l.rule.both l.rule.first l.rule.second l.side l.es)
    × (l.turn.side ≡ side_of l.rule.both l.rule.first l.rule.second l.turn.region)

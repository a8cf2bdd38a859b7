use Rattle.std.proofs.Common.{◌≡◌, ◌++◌, map, take, drop}
use Rattle.cell_map.specs.Changes.{cell_of, with_given}
use Rattle.cell_map.proofs.change.change_all.Given as goal

abbrev pub invariant-loop-i : goal.invariant-loop-i
invariant-loop-i g l =
    (l.entries.items ≡ map (with_given (g.C.Change.given l.change)) (take l.i l.initial.entries.items) ++ drop l.i l.initial.entries.items)
    × (map cell_of l.entries.items ≡ map cell_of l.initial.entries.items)

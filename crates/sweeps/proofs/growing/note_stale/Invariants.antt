use Rattle.std.proofs.Common.{◌≡◌, ◌++◌, map, take, drop}
use Rattle.sweeps.specs.Kept.{with_stale}
use Rattle.sweeps.proofs.growing.note_stale.Given as goal

abbrev pub invariant-loop-at : goal.invariant-loop-at
invariant-loop-at g l =
    l.kept.items ≡ map (with_stale (g.D.Domain.meaning l.domain) l.places.items) (take l.at l.initial.kept.items) ++ drop l.at l.initial.kept.items

use Rattle.std.proofs.Common.{◌≡◌, ◌++◌, map, take, drop}
use Rattle.sweeps.specs.Kept.{renewed, kept_table}
use Rattle.sweeps.proofs.growing.renew.Given as goal

abbrev pub invariant-loop-at : goal.invariant-loop-at
invariant-loop-at g l =
    l.kept.items ≡ map (renewed (g.D.Domain.meaning l.domain) (kept_table l.initial.kept.items)) (take l.at l.initial.kept.items) ++ drop l.at l.initial.kept.items

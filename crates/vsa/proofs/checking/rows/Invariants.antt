use Rattle.std.proofs.Common.{◌≡◌, ◌++◌, drop}
use Rattle.sweeps.specs.Kept.{zip_with}
use Rattle.vsa.specs.Views.{lent_tables}
use Rattle.vsa.proofs.LentLemmas.{beside}
use Rattle.vsa.proofs.checking.rows.Given as goal

abbrev pub invariant-loop-i : goal.invariant-loop-i
invariant-loop-i l = lent_tables l.out.items ++ zip_with beside (drop l.i l.nodes) (drop l.i l.tables) ≡ zip_with beside l.nodes l.tables

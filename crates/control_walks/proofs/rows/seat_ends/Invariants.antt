use Rattle.control_walks.proofs.FloodLemmas.{Seated}
use Rattle.control_walks.proofs.rows.seat_ends.Given as goal

abbrev pub invariant-loop-place : goal.invariant-loop-place
invariant-loop-place l = Seated l.nodes l.targets l.kept l.rows l.place

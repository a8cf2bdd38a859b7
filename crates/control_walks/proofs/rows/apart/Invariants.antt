use Rattle.control_walks.proofs.FloodLemmas.{Apart}
use Rattle.control_walks.proofs.rows.apart.Given as goal

abbrev pub invariant-loop-k : goal.invariant-loop-k
invariant-loop-k l = Apart l.nodes l.targets l.at l.k l.word

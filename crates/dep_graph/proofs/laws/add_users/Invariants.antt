use Rattle.std.proofs.Common.{◌≡◌, length}
use Rattle.dep_graph.proofs.WalkedLemmas.{MarksBelow, IsUserAt}
use Rattle.dep_graph.proofs.laws.add_users.Given as goal

abbrev pub invariant-loop-n : goal.invariant-loop-n
invariant-loop-n l = record {
  len : length l.row ≡ length l.initial.row;
  marks : MarksBelow (IsUserAt l.nodes l.marks l.place) l.initial.row l.row l.n;
}

use Rattle.std.proofs.Common.{◌≡◌, List, Bool, []}
use Rattle.std.specs.Prelude.{slice_index_or}
use Rattle.dep_graph.specs.Edges.{HasPair, Listing}
use Rattle.dep_graph.proofs.pairs.list_row.Given as goal

abbrev pub invariant-loop-n : goal.invariant-loop-n
invariant-loop-n l = (pairs : List (List Bool)) → slice_index_or pairs l.m [] ≡ l.row → Listing (HasPair pairs) l.initial.list.items l.m 0 → Listing (HasPair pairs) l.list.items l.m l.n

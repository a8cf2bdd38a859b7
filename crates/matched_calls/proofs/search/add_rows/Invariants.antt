use Rattle.std.proofs.Common.{length}
use Rattle.dep_graph.proofs.PairLemmas.{Adding}
use Rattle.matched_calls.specs.Searches.{IsHitFrom}
use Rattle.matched_calls.proofs.search.add_rows.Given as goal

abbrev pub invariant-loop-m : goal.invariant-loop-m
invariant-loop-m l = Adding (length l.sources) (IsHitFrom l.graph l.rows l.sources l.targets) l.initial.pairs l.pairs l.m

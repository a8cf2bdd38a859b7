use Rattle.std.proofs.Common.{◌≡◌, length}
use Rattle.service.proofs.page.widest_graph.Given as goal

abbrev pub invariant-loop : goal.invariant-loop
invariant-loop l = length l.nodes ≡ l.counter

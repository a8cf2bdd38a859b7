use Rattle.std.proofs.Common.{◌≡◌, ◌++◌, drop}
use Rattle.rounds.proofs.making.copied.Given as goal

abbrev pub invariant-loop-list : goal.invariant-loop-list
invariant-loop-list l = l.copies.items ++ drop l.list-index l.lists ≡ l.lists

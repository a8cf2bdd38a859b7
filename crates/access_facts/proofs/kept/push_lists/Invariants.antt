use Rattle.std.proofs.Common.{◌≡◌, ◌++◌, drop}
use Rattle.access_facts.proofs.kept.push_lists.Given as goal

abbrev pub invariant-loop-list : goal.invariant-loop-list
invariant-loop-list l = l.lists.items ++ drop l.list-index l.more ≡ l.initial.lists.items ++ l.more

use Rattle.std.proofs.Common.{◌≡◌, ◌++◌, map, drop}
use Rattle.access_facts.specs.Kept.{heap_list}
use Rattle.access_facts.proofs.kept.push_heaps.Given as goal

abbrev pub invariant-loop-key : goal.invariant-loop-key
invariant-loop-key l = l.lists.items ++ map heap_list (drop l.key-index l.keys) ≡ l.initial.lists.items ++ map heap_list l.keys

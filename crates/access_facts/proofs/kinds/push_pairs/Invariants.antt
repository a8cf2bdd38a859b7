use Rattle.std.proofs.Common.{◌≡◌, ◌++◌, map, drop}
use Rattle.access_facts.proofs.kinds.push_pairs.Given as goal

abbrev pub invariant-loop-number : goal.invariant-loop-number
invariant-loop-number l = l.pairs.items ++ map (λ n. (l.from, n)) (drop l.number-index l.to) ≡ l.initial.pairs.items ++ map (λ n. (l.from, n)) l.to

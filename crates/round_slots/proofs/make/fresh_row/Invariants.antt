use Rattle.std.proofs.Common.{◌≡◌, length}
use Rattle.std.specs.List.{AllByRecursion}
use Rattle.round_slots.proofs.make.fresh_row.Given as goal

abbrev pub invariant-loop : goal.invariant-loop
invariant-loop g l = (length l.row.items ≡ l.counter) × AllByRecursion (λ t. (t.tag.value ≡ l.fn.tag) × (t.lane ≡ l.fn.lane)) l.row.items

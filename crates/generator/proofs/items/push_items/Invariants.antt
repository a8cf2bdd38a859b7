use Rattle.std.proofs.Common.{◌≡◌, ◌-◌, ◌++◌}
use Rattle.generator.specs.Items.{items}
use Rattle.generator.proofs.items.push_items.Given as goal

abbrev pub invariant-loop : goal.invariant-loop
invariant-loop l = l.code.items ++ items (l.fn.count - l.counter) l.word ≡ l.fn.code.items ++ items l.fn.count l.fn.seed

use Rattle.std.proofs.Common.{◌≡◌, ◌-◌, ◌*◌, ◌++◌, pos, ◌+ℤ◌}
use Rattle.alocs.specs.Cells.{words}
use Rattle.alocs.proofs.cells.words.Given as goal

abbrev pub invariant-loop : goal.invariant-loop
invariant-loop l = record {
  near : l.next ≡ l.fn.from +ℤ pos (4 * l.counter);
  made : l.offsets.items ++ words (l.fn.count - l.counter) l.next ≡ words l.fn.count l.fn.from;
}

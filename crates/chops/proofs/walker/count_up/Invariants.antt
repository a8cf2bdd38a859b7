use Rattle.std.proofs.Common.{◌≡◌, length}
use Rattle.chops.specs.Following.{AreNumbers}
use Rattle.chops.proofs.walker.count_up.Given as goal

abbrev pub invariant-loop-n : goal.invariant-loop-n
invariant-loop-n l = record {
  many : length l.numbers.items ≡ l.n;
  numbers : AreNumbers l.numbers.items;
}

use Rattle.std.proofs.Common.{◌≡◌, ◌++◌, drop}
use Rattle.abs_state.specs.Registers.{registers_of}
use Rattle.abs_state.proofs.registers.values_of.Given as goal

abbrev pub invariant-loop-i : goal.invariant-loop-i
invariant-loop-i l = l.out.items ++ registers_of l.both (drop l.i l.xs) (drop l.i l.ys) ≡ registers_of l.both l.xs l.ys

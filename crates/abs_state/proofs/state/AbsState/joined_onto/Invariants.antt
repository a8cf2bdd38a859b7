use Rattle.std.proofs.Common.{◌≡◌, drop}
use Rattle.abs_semantics.specs.Accesses.{joined_onto}
use Rattle.abs_state.specs.Views.{seen}
use Rattle.abs_state.proofs.state.AbsState.joined_onto.Given as goal

abbrev pub invariant-loop-i : goal.invariant-loop-i
invariant-loop-i l = joined_onto (seen l.self) l.out (drop l.i l.cells) ≡ joined_onto (seen l.self) l.fn.into l.cells

use Rattle.std.proofs.Common.{◌≡◌, ◌++◌, drop, map}
use Rattle.abs_state.specs.Views.{seen}
use Rattle.vsa.specs.Tables.{state_of}
use Rattle.vsa.proofs.checking.tables.Given as goal

abbrev pub invariant-loop-value : goal.invariant-loop-value
invariant-loop-value l = map state_of l.out.items ++ map seen (drop l.value-index l.values) ≡ map seen l.values

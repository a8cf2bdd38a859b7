use Rattle.std.proofs.Common.{◌≡◌, ◌++◌, drop}
use Rattle.std.specs.Prelude.{map}
use Rattle.call_states.specs.Values.{renamed}
use Rattle.call_states.proofs.values.renamed_registers.Given as goal

abbrev pub invariant-loop-value : goal.invariant-loop-value
invariant-loop-value l = l.out.items ++ map (renamed l.renaming) (drop l.value-index l.values) ≡ map (renamed l.renaming) l.values

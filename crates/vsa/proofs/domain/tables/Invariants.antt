use Rattle.std.proofs.Common.{◌≡◌}
use Rattle.transfer_flow.specs.Successors.{all_placed}
use Rattle.vsa.specs.Views.{tables_of}
use Rattle.vsa.proofs.domain.tables.Given as goal

abbrev pub invariant-loop-placed : goal.invariant-loop-placed
invariant-loop-placed l = l.out.items ≡ tables_of (all_placed l.yielded)

use Rattle.std.proofs.Common.{◌≡◌, ◌++◌, drop}
use Rattle.std.specs.Prelude.{map}
use Rattle.transfer.specs.Views.{view_by}
use Rattle.transfer_flow.specs.Written.{met_by, met}
use Rattle.transfer_flow.proofs.written.all_written.Given as goal

abbrev pub invariant-loop-access : goal.invariant-loop-access
invariant-loop-access l = map met_by l.out.items ++ map (met (view_by l.view)) (drop l.access-index l.accesses) ≡ map (met (view_by l.view)) l.accesses
